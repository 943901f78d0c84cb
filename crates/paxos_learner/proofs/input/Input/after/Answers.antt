-- The keys from the place on are the last ones of the set.
use Rattle.std.proofs.Common.{arith}
use Rattle.std.proofs.lemmas.Simd.{map-map}
use Rattle.paxos_learner.proofs.input.Input.after.Goals as goal

pub returns : goal.returns
returns c = grind (arith, map-map)
