-- Worlds whose nodes are what their records and messages say: their deeds are steps by the rules.
use Rattle.std.specs.Prelude.{◌≡◌, ℕ, All, List, length, Some, IfSome}
use Rattle.pcode_file.specs.Parts.{Parts}
use Rattle.paxos_msg.specs.Batches.{Record, Sent}
use Rattle.paxos_msg.specs.Fits.{IsGroup}
use Rattle.paxos_msg.specs.Keys.{Key}
use Rattle.paxos_acceptor.specs.declared.me.Me.{Me}
use Rattle.paxos_acceptor.specs.Records.{IsRecord}
use Rattle.group_protocol.specs.Backs.{Backs, IsRecordBacked}
use Rattle.group_protocol.specs.Ranges.{IsInRange}
use Rattle.group_protocol.specs.States.{IsSize}
use Rattle.group_node.specs.NodeCalls.{Running}
use Rattle.group_node.specs.Output.{IsReplay}
use Rattle.group_node.specs.States.{input}
use Rattle.group_world.specs.Group.{me_of, member_at, message_of, World, world_state}
use Rattle.group_world.specs.Member.{Member}
use Rattle.group_protocol.specs.Packets.{Datagram}
use Rattle.paxos_msg.specs.Batches.{Msg}
use Rattle.paxos_msg.specs.Datagrams.{Msgs}
use Rattle.paxos_msg.specs.declared.message.Group.{Group}
use Rattle.group_rules.specs.Invariants.{HoldsByRules}

-- A datagram that spells a message.
pub record IsSpelling (group : Group) (datagram : Datagram) : Type 0 where
  pub message : Msg
  pub spells : Msgs group datagram.bytes message
  pub read : message_of group datagram ≡ Some message

-- A node that is up has its stored record, is in its ranges and backed, and its machine is where a
-- replay on its learned input is.
pub record IsRunningSound (p : Parts) (me : Me) (sent : Sent) (typed : List Key) (kept : Record)
    (q : Running) : Type 0 where
  pub me_is : q.known.me ≡ me
  pub kept_is : q.known.kept ≡ kept
  pub ranges : IsInRange q.known
  pub backs : Backs sent typed q.known
  pub program : q.progress.program ≡ p
  pub replay : IsReplay (input q.known) q.progress

-- A node, up or down: its stored record is in its ranges and backed.
pub record IsMemberSound (p : Parts) (me : Me) (sent : Sent) (typed : List Key)
    (m : Member) : Type 0 where
  pub ranges : IsRecord me.group.size m.kept
  pub backed : IsRecordBacked sent me.node m.kept
  pub running : IfSome m.node (IsRunningSound p me sent typed m.kept)

-- A world of an allowed size and session, with as many nodes, which are sound, and in which each
-- datagram spells a message.
pub record IsSound (w : World) : Type 0 where
  pub size : IsSize w.group.size
  pub session : IsGroup w.group
  pub places : length w.members ≡ w.group.size
  pub spelled : All (IsSpelling w.group) w.sent
  pub members : (i : ℕ) (m : Member) → member_at w.members i ≡ Some m →
      IsMemberSound w.program (me_of w i) (world_state w).sent (world_state w).typed m

-- The invariant of a `World`: it is sound, and the rules' invariant holds of it.
pub record Holds (w : World) : Type 0 where
  pub sound : IsSound w
  pub rules : HoldsByRules (world_state w)
