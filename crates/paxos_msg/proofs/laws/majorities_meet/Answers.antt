-- The theorem of `CountingNodes`.
use Rattle.paxos_msg.proofs.CountingNodes.{majorities_meet}
use Rattle.paxos_msg.proofs.laws.majorities_meet.Goals as goal

pub returns : goal.returns
returns c = majorities_meet
