-- A node after a call, by its response.
use Rattle.std.specs.Prelude.{◌≡◌, Result}
use Rattle.base.specs.Calls.{Mut}
use Rattle.paxos_acceptor.specs.Stores.{StoreKind}
use Rattle.group_protocol.specs.declared.fault.NodeFault.{NodeFault}
use Rattle.group_protocol.specs.Calls.{Does, RefusesUnlessAdmitted, Saves}
use Rattle.group_protocol.specs.Known.{Known, Response}
use Rattle.group_protocol.specs.Packets.{Queue}
use Rattle.group_node.specs.States.{NodeState}

-- The node and the outbox after a call that gives this response, if it is admitted. The machine
-- stays.
pub record Sends {S T : Type 0} (response : Known → Response) (node : Mut (NodeState S))
    (outbox : Mut Queue) (result : Result T NodeFault) : Type 0 where
  pub admitted : RefusesUnlessAdmitted node.entry.now.protocol outbox.entry.now.packets result
  pub does : Does node.entry.now.protocol node.exit.now.protocol outbox.entry.now.packets
      outbox.exit.now.packets (response node.entry.now.protocol.known) result
  pub progress : node.exit.now.progress ≡ node.entry.now.progress

-- The node, the outbox and the store after a call that gives this response, if it is admitted. The
-- machine stays.
pub record Responds {S T : Type 0} (kind : StoreKind S) (response : Known → Response)
    (node : Mut (NodeState S)) (outbox : Mut Queue) (result : Result T NodeFault) : Type 0 where
  pub sends : Sends response node outbox result
  pub saves : Saves kind node.entry.now.protocol node.exit.now.protocol
      (response node.entry.now.protocol.known) result
