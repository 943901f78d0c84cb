-- The places of the input are those below the front.
use Rattle.std.proofs.Common.{◌∙◌}
use Rattle.paxos_learner.proofs.Keeping.{front_is}
use Rattle.paxos_learner.proofs.learner.Learner.known_front.Goals as goal

pub returns-clause-front : goal.returns-clause-front
returns-clause-front c = rw (← c.self.view_is) (c.places.ensures.places ∙ front_is c.self.invariant)
