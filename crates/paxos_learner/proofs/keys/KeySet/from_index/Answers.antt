-- The keys from an index on are the last ones that are stored.
use Rattle.std.proofs.Common.{arith}
use Rattle.std.proofs.lemmas.List.{drop-map, take_rest}
use Rattle.paxos_learner.proofs.keys.KeySet.from_index.Goals as goal

pub returns : goal.returns
returns c = rw (← c.self.view_is) (grind (arith, take_rest c.as_slice.result.now c.args.index, drop-map))
