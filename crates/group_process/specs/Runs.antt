-- The starts and runs of the nodes of a group, as entries of a log.
--
-- A *start* (`NodeStart`) is what a node does from one load of its store to the next. It *runs*
-- (`NodeRun`), or its save fails. A run has what its process did on a wire (`Process` of
-- group_wire), the node after that, and whether it goes on (`Stand`). A node may have several
-- starts, one after the other. Of a function `starts : ℕ → List NodeStart`, `starts i` are those of
-- node `i`, so that it has those of all nodes of the group.
use Rattle.std.specs.Prelude.{◌≡◌, ◌≢◌, ◌⊎◌, ℕ, Bool, if◌then◌else◌, List, [], ◌∷◌, ◌++◌, Contains, flat_map, map, Option, Some, None}
use Rattle.std.specs.List.{AllByRecursion}
use Rattle.pcode_file.specs.Parts.{Parts}
use Rattle.pcode_machine.specs.Runs.{IsPrefix}
use Rattle.paxos_msg.specs.declared.limits.TheConstants.{LAST_START}
use Rattle.paxos_msg.specs.declared.message.Group.{Group}
use Rattle.paxos_msg.specs.Batches.{Record}
use Rattle.paxos_msg.specs.Fits.{IsGroup, IsNode}
use Rattle.paxos_msg.specs.declared.record.Change.TheVariants as change
use Rattle.paxos_msg.specs.Records.{changed, empty_record}
use Rattle.paxos_acceptor.specs.declared.me.Me.{Me}
use Rattle.group_protocol.specs.States.{IsSize}
use Rattle.group_node.specs.States.{input}
use Rattle.group_rules.specs.Rules.{WorldState}
use Rattle.group_node.specs.NodeCalls.{Running}
use Rattle.group_wire.specs.Doings.{Doing}
use Rattle.group_wire.specs.Process.{IsProcess, Process, record_of}
use Rattle.group_wire.specs.Turns.{released_of}
use Rattle.group_world.specs.declared.event.Outcome.{Outcome}
use Rattle.group_world.specs.declared.event.Outcome.TheVariants.{FailedNew, FailedOld, Kept}
use Rattle.group_world.specs.Group.{member_at, new_world, world_state}
use Rattle.group_world.specs.Member.{Member}
use Rattle.group_node.specs.Deeds.{Crash, Start}
use Rattle.group_world.specs.Processes.{Entry, IsCarried, IsHistory, IsLog, after_log, entries_of, quiet_entry}

-- ---- as entries

-- What a node does on its wire (`Doing`), as an entry of a log.
abbrev pub entry_by : ℕ → Outcome → Doing → Entry
entry_by node save d =
    record { node = node; deed = d.deed; save = save; sent = d.sent; typed = d.typed }

-- The outcome of a save that failed.
abbrev pub failed_as : Bool → Outcome
failed_as is_changed = if is_changed then FailedNew else FailedOld

-- The entries of the end of a run. Without a deed that failed it is a kill. With one, `is_changed`
-- says whether the store has the changed record after the failed save.
abbrev pub run_end : ℕ → Bool → Option Doing → List Entry
run_end node is_changed None = quiet_entry node Crash ∷ []
run_end node is_changed (Some d) = entry_by node (failed_as is_changed) d ∷ []

-- ---- runs, one after the other

-- The state of a run: it goes on, or it is over. If it ended at a failed save, the boolean says
-- whether its store has the changed record. Otherwise the boolean means nothing.
pub data Stand : Type 0 where
  GoesOn : Stand
  IsOver : Bool → Stand

-- A run of a node: what its process did (`Process`), the node after that, and whether the run goes
-- on.
pub record NodeRun : Type 0 where
  pub process : Process
  pub last : Running
  pub stand : Stand

-- The entries of the end of a run, if it is over.
abbrev pub ends_by : Me → NodeRun → Stand → List Entry
ends_by me run GoesOn = []
ends_by me run (IsOver is_changed) = run_end me.node is_changed run.process.failed

-- A run as entries of its node.
abbrev pub entries_of_run : Me → NodeRun → List Entry
entries_of_run me run =
    quiet_entry me.node (Start run.process.loaded)
    ∷ (map (entry_by me.node Kept) run.process.doings ++ ends_by me run run.stand)

-- The record that a run leaves.
abbrev pub record_by : NodeRun → Stand → Record
record_by run GoesOn = run.last.known.kept
record_by run (IsOver is_changed) = record_of run.last is_changed run.process.failed

-- The node that a run leaves, if it is up.
abbrev pub node_by : NodeRun → Stand → Option Running
node_by run GoesOn = Some run.last
node_by run (IsOver is_changed) = None

-- A start of a node: it runs; or the save of the start over this record fails. Then the boolean
-- says whether the store has the changed record, or else the old one.
pub data NodeStart : Type 0 where
  Starts : NodeRun → NodeStart
  FailsToStart : Record → Bool → NodeStart

-- A start as entries of its node.
abbrev pub entries_of_start : Me → NodeStart → List Entry
entries_of_start me (Starts run) = entries_of_run me run
entries_of_start me (FailsToStart loaded is_changed) =
    (record {
      node = me.node;
      deed = Start loaded;
      save = failed_as is_changed;
      sent = [];
      typed = [];
    }) ∷ []

-- The record that a start leaves.
abbrev pub record_left : NodeStart → Record
record_left (Starts run) = record_by run run.stand
record_left (FailsToStart loaded is_changed) =
    if is_changed then changed loaded change.Start else loaded

-- The node that a start leaves, if it is up.
abbrev pub node_left : NodeStart → Option Running
node_left (Starts run) = node_by run run.stand
node_left (FailsToStart loaded is_changed) = None

-- A run that goes on is the last one.
abbrev pub IsLastIfOn : Stand → List NodeStart → Type 0
IsLastIfOn GoesOn rest = rest ≡ []
IsLastIfOn (IsOver is_changed) rest = Unit {0}

-- A start over a store that has the record `kept`, followed by the starts `rest`. Its load gives
-- `kept`. A run is one of the node's process, and the last start if it goes on. If the save of a
-- start fails, the starts were not spent.
-- Forbids: a load that gives an older record; a start while a run goes on.
abbrev pub IsStartFrom : Parts → Me → Record → NodeStart → List NodeStart → Type 0
IsStartFrom p me kept (Starts run) rest =
    (run.process.loaded ≡ kept) × IsProcess p me run.process run.last × IsLastIfOn run.stand rest
IsStartFrom p me kept (FailsToStart loaded is_changed) rest =
    (loaded ≡ kept) × (loaded.starts ≢ LAST_START)

-- The starts of a node, one after the other. `so` holds of what is known of its store, a start, and
-- the starts after it. `next` gives what is known after a start.
abbrev pub AreInTurn : {K : Type 0} → (K → NodeStart → List NodeStart → Type 0)
    → (K → NodeStart → K) → K → List NodeStart → Type 0
AreInTurn so next known [] = Unit {0}
AreInTurn so next known (a ∷ rest) = so known a rest × AreInTurn so next (next known a) rest

-- The starts of a node, one after the other, over a store that keeps its record: each load gives
-- what the start before it left, and the first one `kept`.
-- Allows: a run that was killed at any deed.
abbrev pub AreStarts : Parts → Me → Record → List NodeStart → Type 0
AreStarts p me = AreInTurn (IsStartFrom p me) (λ _ a. record_left a)

-- The record after these starts over a store that had the record `kept`.
abbrev pub kept_after : Record → List NodeStart → Record
kept_after kept [] = kept
kept_after kept (a ∷ rest) = kept_after (record_left a) rest

-- The node after these starts, if it is up.
abbrev pub node_after : Option Running → List NodeStart → Option Running
node_after up [] = up
node_after up (a ∷ rest) = node_after (node_left a) rest

-- A node that is down, or up as `up`, with this record.
pub record StandsWith (m : Member) (kept : Record) (up : Option Running) : Type 0 where
  pub record_is : m.kept ≡ kept
  pub node_is : m.node ≡ up

-- The claim that runs are a history of their node, which is then as they left it.
abbrev pub AreHistory : Parts → Me → Member → List NodeStart → Type 0
AreHistory p me m starts =
    (last : Member) × IsHistory p me m (flat_map (entries_of_start me) starts) last
    × StandsWith last (kept_after m.kept starts) (node_after None starts)

-- ---- a group

-- A log of the runs of a group, in one order of time. `starts i` are those of node `i`, over a
-- store that has the empty record at first and keeps its record. Each entry is of a node of the
-- group, and those of each node are its runs. What is heard was sent before.
pub record IsGroupLog (p : Parts) (group : Group) (starts : ℕ → List NodeStart)
    (log : List Entry) : Type 0 where
  pub among : AllByRecursion (λ e. IsNode group.size e.node) log
  pub entries : (i : ℕ) → entries_of i log
      ≡ flat_map (entries_of_start (record { node = i; group = group })) (starts i)
  pub started : (i : ℕ) → AreStarts p (record { node = i; group = group }) empty_record (starts i)
  pub carried : IsCarried group [] log

-- All nodes of a group, each with the record that its runs left, and up, or down, as they left it.
-- Forbids: a node of the group that is not there.
abbrev pub AreAsRun : Group → (ℕ → List NodeStart) → List Member → Type 0
AreAsRun group starts now =
    (i : ℕ) → IsNode group.size i
    → (m : Member) × (member_at now i ≡ Some m)
    × StandsWith m (kept_after empty_record (starts i)) (node_after None (starts i))

-- The nodes `now` of a group after a log of the runs of its processes.
-- They are those that the log leaves, with their consoles, and each is as its runs left it.
pub record IsAfterRuns (p : Parts) (group : Group) (starts : ℕ → List NodeStart) (log : List Entry)
    (now : List Member) : Type 0 where
  pub ran : IsGroupLog p group starts log
  pub nodes : IsLog (new_world p group) log now
  pub as_run : AreAsRun group starts now

-- The claim that a log of runs leaves such nodes.
abbrev pub LeaveNodes : Parts → Group → (ℕ → List NodeStart) → List Entry → Type 0
LeaveNodes p group starts log = (now : List Member) × IsAfterRuns p group starts log now

-- A run that was cut off at a deed: it started as this run did, did the first of its deeds, and
-- goes on.
pub record IsCutOff (cut run : NodeRun) : Type 0 where
  pub loaded : cut.process.loaded ≡ run.process.loaded
  pub rest : List Doing
  pub doings : run.process.doings ≡ cut.process.doings ++ rest
  pub failed : cut.process.failed ≡ None
  pub goes_on : cut.stand ≡ GoesOn

-- The same of a start. One whose save failed has no deeds, so it is not cut off.
abbrev pub IsCutStart : NodeStart → NodeStart → Type 0
IsCutStart (Starts cut) (Starts run) = IsCutOff cut run
IsCutStart _ _ = ⊥

-- The first of some runs, of which the last one may be cut off.
abbrev pub AreFirstRuns : List NodeStart → List NodeStart → Type 0
AreFirstRuns [] starts = Unit {0}
AreFirstRuns (a ∷ cut) [] = ⊥
AreFirstRuns (a ∷ cut) (b ∷ starts) =
    ((a ≡ b) × AreFirstRuns cut starts) ⊎ ((cut ≡ []) × IsCutStart a b)

-- The claim that this is a log of runs, which are the first of these.
abbrev pub HasRuns : Parts → Group → (ℕ → List NodeStart) → List Entry → Type 0
HasRuns p group starts log =
    (cut : ℕ → List NodeStart) × IsGroupLog p group cut log
    × ((i : ℕ) → AreFirstRuns (cut i) (starts i))

-- ---- claims about runs

-- A group after a log of its processes, as the main theorem sees it.
abbrev pub state_after : Parts → Group → List Entry → List Member → WorldState
state_after p group log now = world_state (after_log (new_world p group) log now)

-- What holds of the nodes of every program and group, whatever their processes do.
-- It is said of every `now`: a log of runs leaves nodes, and only one list of them, so all claims
-- are of the same nodes. Each prefix of a log of runs is one too, so they hold at each moment.
abbrev pub AlwaysOfRuns : (WorldState → Type 0) → Type 0
AlwaysOfRuns P =
    (p : Parts) (group : Group) (starts : ℕ → List NodeStart) (log : List Entry) (now : List Member)
    → IsSize group.size → IsGroup group → IsAfterRuns p group starts log now
    → P (state_after p group log now)

-- The same of what relates the nodes to their runs.
abbrev pub AlwaysOfNodes : ((ℕ → List NodeStart) → List Member → Type 0) → Type 0
AlwaysOfNodes Q =
    (p : Parts) (group : Group) (starts : ℕ → List NodeStart) (log : List Entry) (now : List Member)
    → IsSize group.size → IsGroup group → IsAfterRuns p group starts log now → Q starts now

-- What holds of every two moments of a log: `mid` are the nodes after a prefix, whose runs are
-- `cut`, and `now` those after all of it.
abbrev pub AlwaysLaterOfRuns : (WorldState → WorldState → Type 0) → Type 0
AlwaysLaterOfRuns P =
    (p : Parts) (group : Group) (cut starts : ℕ → List NodeStart) (log more : List Entry)
    (mid now : List Member) → IsSize group.size → IsGroup group → IsAfterRuns p group cut log mid
    → IsAfterRuns p group starts (log ++ more) now
    → P (state_after p group log mid) (state_after p group (log ++ more) now)

-- The runs of these starts.
abbrev pub runs_in : List NodeStart → List NodeRun
runs_in [] = []
runs_in (Starts run ∷ rest) = run ∷ runs_in rest
runs_in (FailsToStart loaded is_changed ∷ rest) = runs_in rest

-- What a node has released: the first bytes of what its machine has written.
abbrev pub output_of : Running → List ℕ
output_of n = released_of (input n.known) n.progress

-- What a run has released by its end.
abbrev pub run_output : NodeRun → List ℕ
run_output run = output_of run.last

-- The console of each node begins with what each of its runs has released, whether that run goes on
-- or is over.
-- Allows: a console that shows more, from another run.
-- Forbids: a released byte that the console does not have.
abbrev pub ConsolesShowRuns : (ℕ → List NodeStart) → List Member → Type 0
ConsolesShowRuns starts now =
    (i : ℕ) (m : Member) (run : NodeRun) → member_at now i ≡ Some m
    → Contains (starts i) (Starts run) → IsPrefix (run_output run) m.console

-- The console of each node is what one of its runs has released, or nothing. With
-- `ConsolesShowRuns` it is the longest of what they have released.
-- Forbids: a byte on the console that no run has released.
abbrev pub ConsolesAreReleased : (ℕ → List NodeStart) → List Member → Type 0
ConsolesAreReleased starts now =
    (i : ℕ) (m : Member) → member_at now i ≡ Some m
    → (m.console ≡ [])
    ⊎ ((run : NodeRun) × Contains (starts i) (Starts run) × (m.console ≡ run_output run))
