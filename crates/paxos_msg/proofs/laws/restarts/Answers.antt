-- The theorem of `GoesOn`.
use Rattle.paxos_msg.proofs.GoesOn.{restarts}
use Rattle.paxos_msg.proofs.laws.restarts.Goals as goal

pub returns : goal.returns
returns c = restarts
