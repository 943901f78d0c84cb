-- Processes that are the nodes of a group: what each of them did, in one order of time, over stores
-- that keep their records and a network that carries what was sent.
use Rattle.std.specs.Prelude.{◌≡◌, ◌≢◌, ℕ, ◌==◌, List, [], ◌∷◌, ◌++◌, length, filter, flat_map, Some}
use Rattle.std.specs.List.{AllByRecursion}
use Rattle.pcode_file.specs.Parts.{Parts}
use Rattle.paxos_msg.specs.declared.message.Group.{Group}
use Rattle.paxos_msg.specs.declared.value.Value.{Value}
use Rattle.paxos_msg.specs.Fits.{IsGroup}
use Rattle.paxos_acceptor.specs.declared.me.Me.{Me}
use Rattle.group_node.specs.Deeds.{Deed, Idle}
use Rattle.group_protocol.specs.Packets.{Datagram}
use Rattle.group_protocol.specs.States.{IsSize}
use Rattle.group_rules.specs.Rules.{WorldState}
use Rattle.group_world.specs.declared.event.Done.{Done}
use Rattle.group_world.specs.declared.event.Event.{Event}
use Rattle.group_world.specs.declared.event.Outcome.{Outcome}
use Rattle.group_world.specs.declared.event.Outcome.TheVariants.{Kept}
use Rattle.group_world.specs.Deeds.{DoesDeed, Left}
use Rattle.group_world.specs.Event.{HearsOf, IsDeedOf, LeadsBy, node_of, plan_of}
use Rattle.group_world.specs.Group.{World, me_of, member_at, messages_in, new_world, world_state}
use Rattle.group_world.specs.Member.{Member}

-- ---- what one process does

-- A deed of the process of a node: the outcome of its save, if it made one, the datagrams that it
-- sent, and the keys that were typed.
-- A process that is killed in a call has done nothing, and crashes; or it has failed to save, with
-- either record left; or it has done all of it, and crashes. Datagrams that it did not hand out any
-- more are then lost.
pub record Entry : Type 0 where
  pub node : ℕ
  pub deed : Deed
  pub save : Outcome
  pub sent : List Datagram
  pub typed : List Value

-- An entry of a node at which nothing is sent or typed. Its save, if it makes one, is kept.
abbrev pub quiet_entry : ℕ → Deed → Entry
quiet_entry node deed = record { node = node; deed = deed; save = Kept; sent = []; typed = [] }

-- What an entry leaves that was answered so, with the node after it.
abbrev pub left_by : Entry → Done → Member → Left
left_by e d new = record { answer = d; member = new; sent = e.sent; typed = e.typed }

-- The claim that node `m` does the deed of `e`, with the save, datagrams and keys of `e`, and is
-- `new` after it, whatever the deed answered. `p` is the program.
abbrev pub DoesEntry : Parts → Me → Member → Entry → Member → Type 0
DoesEntry p me m e new = (d : Done) × DoesDeed p me m (plan_of e.save) e.deed (left_by e d new)

-- The node `me`, which was `m`, after these entries.
abbrev pub IsHistory : Parts → Me → Member → List Entry → Member → Type 0
IsHistory p me m [] last = last ≡ m
IsHistory p me m (e ∷ es) last =
    (mid : Member) × DoesEntry p me m e mid × IsHistory p me mid es last

-- ---- what the processes of a group do

-- The entries of one node, in order.
abbrev pub entries_of : ℕ → List Entry → List Entry
entries_of i log = filter (λ e. e.node == i) log

-- The datagrams that were sent in these entries, in order.
abbrev pub sent_in : List Entry → List Datagram
sent_in log = flat_map (λ e. e.sent) log

-- The keys that were typed in these entries, in order.
abbrev pub typed_in : List Entry → List Value
typed_in log = flat_map (λ e. e.typed) log

-- Entries each of which hears only what was sent before it: at first, or by an entry before it.
-- Allows: a datagram that never comes, or comes again and again, late, or before an older one, or
-- at another node.
-- Forbids: a message that nobody sent.
abbrev pub IsCarried : Group → List Datagram → List Entry → Type 0
IsCarried group sent [] = Unit {0}
IsCarried group sent (e ∷ log) = HearsOf group sent e.deed × IsCarried group (sent ++ e.sent) log

-- A log of the processes of a group. The world before it is `w`, and `now` are the nodes after it,
-- node 1 first.
-- The log is in one order of time. Each entry is of a node of the group. The entries of each node
-- are a history of its process, over a store that keeps its record. What is heard was sent before.
-- Allows: any order of the deeds of two nodes, if one does not hear what the other sent.
pub record IsLog (w : World) (log : List Entry) (now : List Member) : Type 0 where
  pub places : length now ≡ length w.members
  pub among : AllByRecursion (λ e. (m : Member) × (member_at now e.node ≡ Some m)) log
  pub nodes : (i : ℕ) (m last : Member) → member_at w.members i ≡ Some m
      → member_at now i ≡ Some last
      → IsHistory w.program (me_of w i) m (entries_of i log) last
  pub carried : IsCarried w.group w.sent log

-- The world after a log of its processes: these nodes, and what was sent and typed.
abbrev pub after_log : World → List Entry → List Member → World
after_log w log now =
    record w { members = now; sent = w.sent ++ sent_in log; typed = w.typed ++ typed_in log }

-- ---- what a log is as events

-- The events of an entry: an idle one is none, and each other is one, of the same deed at the same
-- node. A message that is heard is one of those that were sent before, by its number.
-- Forbids: an event of another node, of another message or byte, or with another save.
abbrev pub AreEventsOfEntry : Group → List Datagram → Entry → List Event → Type 0
AreEventsOfEntry group sent e [] = e.deed ≡ Idle
AreEventsOfEntry group sent e (one ∷ events) =
    IsDeedOf (messages_in group sent) one.act e.deed × (node_of one.act ≡ e.node)
    × (one.save ≡ e.save) × (events ≡ [])

-- The events of a log, entry by entry, where `sent` was sent before it.
abbrev pub AreEventsOf : Group → List Datagram → List Entry → List Event → Type 0
AreEventsOf group sent [] events = events ≡ []
AreEventsOf group sent (e ∷ log) events =
    (first : List Event) × (rest : List Event) × AreEventsOfEntry group sent e first
    × AreEventsOf group (sent ++ e.sent) log rest × (events ≡ first ++ rest)

-- The claim that the processes have done what the events of their log do.
abbrev pub AreEvents : World → List Entry → List Member → Type 0
AreEvents w log now =
    (events : List Event) × AreEventsOf w.group w.sent log events
    × LeadsBy w events (after_log w log now)

-- ---- claims about processes

-- What holds of the processes of every program and group, whatever they do.
abbrev pub AlwaysOfProcesses : (WorldState → Type 0) → Type 0
AlwaysOfProcesses P =
    (p : Parts) (group : Group) (log : List Entry) (now : List Member) → IsSize group.size
    → IsGroup group → IsLog (new_world p group) log now
    → P (world_state (after_log (new_world p group) log now))

-- What holds of every two moments of the processes, whatever they do before the first and in
-- between.
abbrev pub AlwaysLaterOfProcesses : (WorldState → WorldState → Type 0) → Type 0
AlwaysLaterOfProcesses P =
    (p : Parts) (group : Group) (log more : List Entry) (mid now : List Member)
    → IsSize group.size → IsGroup group → IsLog (new_world p group) log mid
    → IsLog (after_log (new_world p group) log mid) more now
    → P (world_state (after_log (new_world p group) log mid))
    (world_state (after_log (after_log (new_world p group) log mid) more now))

-- The claim that a log of processes, with these events, leads from the world `w` to `v`.
-- Forbids: an idle entry, which is no event.
abbrev pub MayBeLogged : World → List Event → World → Type 0
MayBeLogged w events v =
    (log : List Entry) × IsLog w log v.members × AreEventsOf w.group w.sent log events
    × AllByRecursion (λ e. e.deed ≢ Idle) log × (v ≡ after_log w log v.members)

-- ---- two parts of a log

-- Nodes between two parts of a log of processes. The first part leads from the world `w` to the
-- nodes `mid`, and the second one from these to `now`.
-- Allows: a part with no entries.
pub record IsMoment (w : World) (log more : List Entry) (mid now : List Member) : Type 0 where
  pub before : IsLog w log mid
  pub after : IsLog (after_log w log mid) more now

-- The claim that there are nodes between these two parts of a log.
abbrev pub HasMoment : World → List Entry → List Entry → List Member → Type 0
HasMoment w log more now = (mid : List Member) × IsMoment w log more mid now
