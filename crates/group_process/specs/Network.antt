-- A log of runs with what each receive gave, over a network that gives only messages that were
-- handed to it.
use Rattle.std.specs.Prelude.{◌≡◌, ℕ, ◌==◌, List, [], ◌∷◌, ◌++◌, Contains, filter, flat_map, map, Option, Some, None}
use Rattle.std.specs.List.{AllByRecursion}
use Rattle.pcode_file.specs.Parts.{Parts}
use Rattle.paxos_msg.specs.declared.message.Group.{Group}
use Rattle.paxos_msg.specs.Batches.{Msg}
use Rattle.paxos_msg.specs.Fits.{IsNode}
use Rattle.paxos_msg.specs.Records.{empty_record}
use Rattle.paxos_acceptor.specs.declared.me.Me.{Me}
use Rattle.group_node.specs.Deeds.{Hear, Start}
use Rattle.group_protocol.specs.Packets.{Datagram}
use Rattle.group_wire.specs.Arrivals.{Spells}
use Rattle.group_wire.specs.Doings.{Doing}
use Rattle.group_wire.specs.Traffic.{Letter, letters_of}
use Rattle.group_world.specs.declared.event.Outcome.TheVariants.{Kept}
use Rattle.group_wire.specs.Process.{IsProcess}
use Rattle.group_world.specs.Processes.{Entry, IsCarried, entries_of, quiet_entry}
use Rattle.group_process.specs.Runs.{AreStarts, NodeStart, FailsToStart, IsGroupLog, NodeRun, Starts, ends_by, entries_of_start, entry_by, runs_in}

-- An entry with what a receive gave for it.
pub record GivenEntry : Type 0 where
  pub entry : Entry
  pub given : List (Option (List ℕ))

-- This entry with what a receive gave for it.
abbrev pub with_given : List (Option (List ℕ)) → Entry → GivenEntry
with_given given e = record { entry = e; given = given }

-- This entry, for which no receive was made.
abbrev pub unreceived : Entry → GivenEntry
unreceived e = with_given [] e

-- What a node does on its wire as an entry with what a receive gave.
abbrev pub received_at : ℕ → Doing → GivenEntry
received_at node d = with_given d.given (entry_by node Kept d)

-- What a receive gave for the deed at which a save failed, if one did.
abbrev pub given_for : Option Doing → List (Option (List ℕ))
given_for None = []
given_for (Some d) = d.given

-- A run as entries of its node with what receives gave.
abbrev pub received_in_run : Me → NodeRun → List GivenEntry
received_in_run me run =
    unreceived (quiet_entry me.node (Start run.process.loaded))
    ∷ (map (received_at me.node) run.process.doings
    ++ map (with_given (given_for run.process.failed)) (ends_by me run run.stand))

-- A start as entries of its node with what receives gave.
abbrev pub received_in : Me → NodeStart → List GivenEntry
received_in me (Starts run) = received_in_run me run
received_in me (FailsToStart loaded is_changed) =
    map unreceived (entries_of_start me (FailsToStart loaded is_changed))

-- The entries of one node, in order.
abbrev pub received_by : ℕ → List GivenEntry → List GivenEntry
received_by i log = filter (λ e. e.entry.node == i) log

-- The entries without what was received.
abbrev pub entries_alone : List GivenEntry → List Entry
entries_alone log = map (λ e. e.entry) log

-- What a receive gave, of which each datagram that spells a message is one of these letters, to
-- whichever node.
-- Allows: a datagram that spells no message, wherever it is from.
-- Forbids: a message that nobody handed over.
abbrev pub AreLetters : Group → List Letter → List (Option (List ℕ)) → Type 0
AreLetters group letters given =
    (bytes : List ℕ) (m : Msg) → Contains given (Some bytes) → Spells group bytes m
    → (l : Letter) × Contains letters l × (l.bytes ≡ bytes)

-- Each message that a receive gave for an entry was handed over before it: at first, or by an
-- earlier entry.
-- Allows: a datagram that spells no message, wherever it is from; one that never comes, or comes
-- again and again, late, or before an older one, or at another node.
abbrev pub AreDelivered : Group → List Datagram → List GivenEntry → Type 0
AreDelivered group sent [] = Unit {0}
AreDelivered group sent (e ∷ log) =
    AreLetters group (letters_of group.size sent) e.given
    × AreDelivered group (sent ++ e.entry.sent) log

-- A log of the processes of a group with what was received, in one order of time. Each entry is of
-- a node of the group, and those of each node are its runs, over a store that keeps its record.
-- Each message that a receive gave was handed over before.
pub record IsNetworkLog (p : Parts) (group : Group) (starts : ℕ → List NodeStart)
    (log : List GivenEntry) : Type 0 where
  pub among : AllByRecursion (λ e. IsNode group.size e.entry.node) log
  pub entries : (i : ℕ) → received_by i log
      ≡ flat_map (received_in (record { node = i; group = group })) (starts i)
  pub started : (i : ℕ) → AreStarts p (record { node = i; group = group }) empty_record (starts i)
  pub delivered : AreDelivered group [] log

-- The runs of these starts are processes of the node, whatever records they load.
abbrev pub AreProcesses : Parts → Me → List NodeStart → Type 0
AreProcesses p me starts =
    AllByRecursion (λ run. IsProcess p me run.process run.last) (runs_in starts)

-- The same log for starts whose runs need only be processes of the node (`AreProcesses`).
-- Allows: a load that gives any record; a start while an earlier run goes on.
pub record IsDeliveredLog (p : Parts) (group : Group) (starts : ℕ → List NodeStart)
    (log : List GivenEntry) : Type 0 where
  pub among : AllByRecursion (λ e. IsNode group.size e.entry.node) log
  pub entries : (i : ℕ) → received_by i log
      ≡ flat_map (received_in (record { node = i; group = group })) (starts i)
  pub processes : (i : ℕ) → AreProcesses p (record { node = i; group = group }) (starts i)
  pub delivered : AreDelivered group [] log

-- A log of these starts in which all that is heard was sent before.
pub record AreEntriesOf (group : Group) (starts : ℕ → List NodeStart) (log : List Entry)
    : Type 0 where
  pub among : AllByRecursion (λ e. IsNode group.size e.node) log
  pub entries : (i : ℕ) → entries_of i log
      ≡ flat_map (entries_of_start (record { node = i; group = group })) (starts i)
  pub carried : IsCarried group [] log

-- The claim that some runs have a network log (`IsNetworkLog`) in which a message is heard, and
-- that its entries alone are a log of these runs (`IsGroupLog`).
abbrev pub MayHear : Parts → Group → Type 0
MayHear p group =
    (starts : ℕ → List NodeStart) × (log : List GivenEntry) × (e : GivenEntry) × (m : Msg)
    × IsNetworkLog p group starts log × IsGroupLog p group starts (entries_alone log)
    × Contains log e × (e.entry.deed ≡ Hear m)
