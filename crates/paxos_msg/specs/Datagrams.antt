-- Datagrams: a header and a body. The bytes of a message, its ranges, and how it is read.
use Rattle.std.specs.Prelude.{◌≡◌, ℕ, List, ◌∷◌, ◌++◌, length, drop, slice_index, Result, Ok, nat_lt, ◌==◌, ◌&&◌, ◌||◌, not}
use Rattle.base.specs.Steps.{◌>>=◌, unless}
use Rattle.byteorder.specs.Endian.{big_number}
use Rattle.paxos_msg.specs.declared.bodies.TheConstants.{LAST_KIND}
use Rattle.paxos_msg.specs.declared.fault.WireFault.{WireFault}
use Rattle.paxos_msg.specs.declared.fault.WireFault.TheVariants as fault
use Rattle.paxos_msg.specs.declared.message.Group.{Group}
use Rattle.paxos_msg.specs.Batches.{Msg}
use Rattle.paxos_msg.specs.Bodies.{IsBody, body_at, body_bytes, kind_of}
use Rattle.paxos_msg.specs.Fits.{IsNode}
use Rattle.paxos_msg.specs.Reading.{is_node, refuse}
use Rattle.paxos_msg.specs.Spelling.{number_bytes}

-- The message has a spelling in the group: its sender is a node of it, and its body is in its
-- ranges.
-- Allows: A Promise whose `upto` is 65,536.
-- Forbids: A vote at place 65,536.
abbrev pub Fits : Group → Msg → Type 0
Fits group m = IsNode group.size m.sender × IsBody group.size m.sender m.body

-- The ten bytes of a header: `PG`, version 2, kind, sender, and the group's size and session.
abbrev pub header_bytes : Group → ℕ → ℕ → List ℕ
header_bytes group kind sender =
    80 ∷ 71 ∷ 2 ∷ kind ∷ sender ∷ group.size ∷ number_bytes group.session

-- The bytes of a message: its header and its body.
-- Allows: A Promise without votes.
abbrev pub spelling : Group → Msg → List ℕ
spelling group m = header_bytes group (kind_of m.body) m.sender ++ body_bytes m.body

-- A datagram that is the spelling of a message that fits.
-- Forbids: A byte after the last field.
pub record Msgs (group : Group) (bytes : List ℕ) (m : Msg) : Type 0 where
  pub fits : Fits group m
  pub spelled : bytes ≡ spelling group m

-- ---- reading a datagram from left to right

-- Kind and sender from a header of the group, and the bytes after it.
unfoldable pub header_at : Group → List ℕ → Result ((ℕ × ℕ) × List ℕ) WireFault
header_at group bytes = do
  _ ← refuse fault.Short (nat_lt (length bytes) 10)
  _ ← refuse fault.Magic (not ((slice_index bytes 0 == 80) && (slice_index bytes 1 == 71)))
  _ ← refuse fault.Version (not (slice_index bytes 2 == 2))
  _ ← refuse fault.Kind ((slice_index bytes 3 == 0) || nat_lt LAST_KIND (slice_index bytes 3))
  _ ← refuse fault.Group
      (not ((slice_index bytes 5 == group.size) && (big_number 4 (drop 6 bytes) == group.session)))
  _ ← refuse fault.Sender (not (is_node group.size (slice_index bytes 4)))
  Ok ((slice_index bytes 3, slice_index bytes 4), drop 10 bytes)

-- The message that is all of the bytes, or the first check that fails, from the left.
-- Allows: Any bytes.
-- Forbids: A fault named before an earlier one.
unfoldable pub message_at : Group → List ℕ → Result Msg WireFault
message_at group bytes = do
  header ← header_at group bytes
  body ← body_at group.size header.0.0 header.0.1 header.1
  unless fault.Trailing (not (length body.1 == 0)) (record { sender = header.0.1; body = body.0 })
