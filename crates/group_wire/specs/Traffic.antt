-- What passes between a node and its wire.
use Rattle.std.specs.Prelude.{ℕ, List, [], ◌∷◌, ◌++◌, map, Option, option_map}
use Rattle.std.specs.List.{range_with_len}
use Rattle.group_protocol.specs.declared.packet.To.{To}
use Rattle.group_protocol.specs.declared.packet.To.TheVariants as whom
use Rattle.group_protocol.specs.Known.{Known}
use Rattle.group_protocol.specs.Packets.{Datagram, Packet, datagrams_of}

-- A datagram and the number of the node that it is for.
pub record Letter : Type 0 where
  pub to : ℕ
  pub bytes : List ℕ

-- What passes over a wire: a datagram that it gets to send, or what a receive gives.
-- A receive gives a datagram, or nothing.
pub data Transfer : Type 0 where
  Hands : Letter → Transfer
  Receives : Option (List ℕ) → Transfer

-- What has passed over a wire, in one order.
abbrev pub Traffic : Type 0
Traffic = List Transfer

-- Known traffic after more has passed.
-- Allows: a wire whose traffic is unknown.
abbrev pub grown : Option Traffic → Traffic → Option Traffic
grown known more = option_map (λ t. t ++ more) known

-- Letters that a wire got to send, as traffic.
abbrev pub handed : List Letter → Traffic
handed letters = map (λ l. Hands l) letters

-- A datagram in a group of `size` nodes as a letter for each node that it goes to, node 1 first.
-- Allows: a letter to the sender itself.
abbrev pub letters_to : ℕ → To → List ℕ → List Letter
letters_to size (whom.One i) bytes = record { to = i; bytes = bytes } ∷ []
letters_to size whom.All bytes = map (λ i. record { to = i; bytes = bytes }) (range_with_len 1 size)

-- The letters of several datagrams, in order.
abbrev pub letters_of : ℕ → List Datagram → List Letter
letters_of size [] = []
letters_of size (d ∷ ds) = letters_to size d.to d.bytes ++ letters_of size ds

-- The letters of the packets of a node.
abbrev pub posted : Known → List Packet → List Letter
posted n packets = letters_of n.me.group.size (datagrams_of n.me packets)
