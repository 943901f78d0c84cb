-- There is one byte for each key.
use Rattle.std.proofs.Common.{arith}
use Rattle.std.proofs.lemmas.Grind.{common_steps}
use Rattle.paxos_learner.proofs.Keeping.{keys_are}
use Rattle.paxos_learner.proofs.learner.Learner.input_len.Goals as goal

pub returns : goal.returns
returns c = rw (← c.self.view_is) (grind (arith, common_steps, keys_are c.self.invariant))
