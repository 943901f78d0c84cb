-- The byte at an index is that of the key there.
use Rattle.std.proofs.Common.{arith}
use Rattle.std.proofs.lemmas.Option.{slice_get-map}
use Rattle.paxos_learner.proofs.Keeping.{keys_are}
use Rattle.paxos_learner.proofs.learner.Learner.input_at.Goals as goal

pub returns : goal.returns
returns c = rw (← c.self.view_is) (grind (arith, slice_get-map, keys_are c.self.invariant))
