-- Messages with their addressees, and the datagrams that an outbox holds.
use Rattle.std.specs.Prelude.{ℕ, ◌+◌, ◌≤◌, List, length, map}
use Rattle.paxos_msg.specs.Batches.{Body}
use Rattle.paxos_msg.specs.Datagrams.{spelling}
use Rattle.paxos_acceptor.specs.declared.me.Me.{Me}
use Rattle.group_protocol.specs.declared.packet.To.{To}
use Rattle.group_protocol.specs.declared.packet.To.TheVariants as whom
use Rattle.group_protocol.specs.declared.limits.TheConstants.{MOST_PACKETS}

-- A message's body and its addressees.
-- Allows: a packet to the node itself.
pub record Packet : Type 0 where
  pub to : To
  pub body : Body

-- The packet of a body to all nodes of the group, the sender included.
abbrev pub to_all : Body → Packet
to_all b = record { to = whom.All; body = b }

-- The packet of a body to one node.
abbrev pub to_one : ℕ → Body → Packet
to_one i b = record { to = whom.One i; body = b }

-- The bodies of packets, in order.
abbrev pub bodies_of : List Packet → List Body
bodies_of packets = map (λ packet. packet.body) packets

-- A datagram's bytes and its addressees.
pub record Datagram : Type 0 where
  pub to : To
  pub bytes : List ℕ

-- The datagram of a node's packet.
-- Forbids: the name of another sender.
abbrev pub datagram_of : Me → Packet → Datagram
datagram_of me packet =
    record {
      to = packet.to;
      bytes = spelling me.group (record { sender = me.node; body = packet.body });
    }

-- The datagrams of a node's packets.
abbrev pub datagrams_of : Me → List Packet → List Datagram
datagrams_of me packets = map (datagram_of me) packets

-- The datagrams to be sent, the oldest first, and the number of buffers that are ready.
pub record Queue : Type 0 where
  pub packets : List Datagram
  pub ready : ℕ

-- The room for `n` more packets: a buffer is ready for each, and each finds a place.
pub record HasRoom (n : ℕ) (q : Queue) : Type 0 where
  pub ready : n ≤ q.ready
  pub places : length q.packets + n ≤ MOST_PACKETS

-- The step from an outbox to one into which at most `n` packets were put.
pub record GrowsBy (n : ℕ) (old new : Queue) : Type 0 where
  pub ready : old.ready ≤ new.ready + n
  pub few : length new.packets ≤ length old.packets + n
