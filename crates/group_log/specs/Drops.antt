-- Why a node drops a datagram.
use Rattle.std.specs.Prelude.{ℕ, ◌+◌, min, List, ◌==◌, if◌then◌else◌, Option, Some, None, Result, Ok, Err, slice_get}
use Rattle.std.specs.declared.net.socket_addr.SocketAddr.{SocketAddr}
use Rattle.paxos_msg.specs.declared.message.Group.{Group}
use Rattle.paxos_msg.specs.declared.fault.WireFault.{WireFault}
use Rattle.paxos_msg.specs.declared.fault.WireFault.TheVariants as fault
use Rattle.paxos_msg.specs.Batches.{Msg}
use Rattle.paxos_msg.specs.Datagrams.{message_at}
use Rattle.group_log.specs.declared.drops.TheConstants.{MOST_COUNTED}
use Rattle.group_log.specs.declared.drops.Drops.{Drops}
use Rattle.group_log.specs.declared.drops.DropReason.{DropReason}
use Rattle.group_log.specs.declared.drops.DropReason.TheVariants.{Source, Version, Size, Session, Damaged}

-- The index in a datagram of its group's size.
abbrev pub size_index : ℕ
size_index = 5

-- The reason for a datagram of another group, by the size that it names.
abbrev pub group_reason : Group → Option ℕ → DropReason
group_reason g None = Size
group_reason g (Some size) = if size == g.size then Session else Size

-- The reason for the first check that a datagram fails.
abbrev pub reason_for : Group → List ℕ → WireFault → DropReason
reason_for g bytes fault.Version = Version
reason_for g bytes fault.Group = group_reason g (slice_get bytes size_index)
reason_for g bytes _ = Damaged

-- The reason for the result of reading.
abbrev pub reason_after : Group → List ℕ → Result Msg WireFault → Option DropReason
reason_after g bytes (Ok m) = None
reason_after g bytes (Err e) = Some (reason_for g bytes e)

-- Why a node of the group drops these bytes, if it does, by the first check that they fail.
-- Allows: no reason, for a message of the group.
abbrev pub reason_of : Group → List ℕ → Option DropReason
reason_of g bytes = reason_after g bytes (message_at g bytes)

-- One more, up to the greatest count.
abbrev pub one_more : ℕ → ℕ
one_more n = min (n + 1) MOST_COUNTED

-- The counts of dropped datagrams after one more, which came from this address.
abbrev pub drops_with : Drops → DropReason → SocketAddr → Drops
drops_with d Source from = record d { source = one_more d.source; last_source = Some from }
drops_with d Version from = record d { version = one_more d.version }
drops_with d Size from = record d { size = one_more d.size }
drops_with d Session from = record d { session = one_more d.session }
drops_with d Damaged from = record d { damaged = one_more d.damaged }
