use Rattle.paxos_learner.proofs.Fronts.{IsFront-front_of, front_found}
use Rattle.paxos_learner.proofs.Hearing.{front_few, front_rises}
use Rattle.paxos_learner.proofs.laws.one_front.Goals as goal

pub returns : goal.returns
returns c = record { there = IsFront-front_of; one = front_found; rises = front_rises; few = front_few }
