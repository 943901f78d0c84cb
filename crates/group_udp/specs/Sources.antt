-- Where a datagram came from, and whom it names.
use Rattle.std.specs.Prelude.{◌≡◌, ℕ, zero, suc, Bool, true, false, List, Option, Some, None, slice_get}
use Rattle.std.specs.declared.net.socket_addr.SocketAddr.{SocketAddr}
use Rattle.paxos_msg.specs.declared.message.Group.{Group}
use Rattle.group_log.specs.Drops.{reason_of}
use Rattle.group_log.specs.declared.drops.DropReason.{DropReason}
use Rattle.group_log.specs.declared.drops.DropReason.TheVariants.{Source}

-- The index in a datagram of its sender's number.
abbrev pub sender_index : ℕ
sender_index = 4

-- The address of a node, if there is one. The addresses are those of the nodes, node 1 first.
abbrev pub address_at : List SocketAddr → ℕ → Option SocketAddr
address_at addresses zero = None
address_at addresses (suc index) = slice_get addresses index

-- A datagram that came from the address of the node that it names as its sender.
-- Forbids: a source that is no node's, or another node's.
pub record IsFromSender (addresses : List SocketAddr) (source : SocketAddr) (bytes : List ℕ)
    : Type 0 where
  pub sender : ℕ
  pub named : slice_get bytes sender_index ≡ Some sender
  pub address : address_at addresses sender ≡ Some source

-- The reason that reading gives, or otherwise, for a datagram from elsewhere, its source.
abbrev pub or_source : Option DropReason → Bool → Option DropReason
or_source (Some reason) is_from_sender = Some reason
or_source None true = None
or_source None false = Some Source

-- Why a node of the group drops these bytes, which come from the sender that they name, or do not.
-- Allows: no reason, for a message from its sender.
abbrev pub drop_of : Group → Bool → List ℕ → Option DropReason
drop_of g is_from_sender bytes = or_source (reason_of g bytes) is_from_sender
