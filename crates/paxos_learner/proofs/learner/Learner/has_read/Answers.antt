-- The keys of the input are those of the values below the front.
use Rattle.paxos_learner.proofs.Keeping.{keys_are}
use Rattle.paxos_learner.proofs.learner.Learner.has_read.Goals as goal

pub returns : goal.returns
returns c = rw (← c.self.view_is, ← keys_are c.self.invariant, ← c.keys.ensures) c.contains.ensures
