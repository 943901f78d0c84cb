use Rattle.node_run.proofs.Course.{gift_none}
use Rattle.node_run.proofs.rest.wait.Goals as goal

pub returns-in-Over-clause-looks : goal.returns-in-Over-clause-looks
returns-in-Over-clause-looks g c = gift_none _

pub returns-in-Datagram-clause-looks : goal.returns-in-Datagram-clause-looks
returns-in-Datagram-clause-looks g c = gift_none _
