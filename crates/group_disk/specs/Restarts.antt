-- Starts of a node's process over a disk, of which a restart may find more than one record.
use Rattle.std.specs.Prelude.{◌≡◌, ◌≢◌, ◌⊎◌, ℕ, true, false, List, [], ◌∷◌, Contains, flat_map, map}
use Rattle.std.specs.List.{AllByRecursion}
use Rattle.pcode_file.specs.Parts.{Parts}
use Rattle.paxos_msg.specs.declared.limits.TheConstants.{LAST_START}
use Rattle.paxos_msg.specs.declared.message.Group.{Group}
use Rattle.paxos_msg.specs.Batches.{Record}
use Rattle.paxos_msg.specs.Fits.{IsNode}
use Rattle.paxos_msg.specs.declared.record.Change.TheVariants as change
use Rattle.paxos_msg.specs.Records.{changed, empty_record}
use Rattle.paxos_acceptor.specs.declared.me.Me.{Me}
use Rattle.group_wire.specs.Process.{IsProcess}
use Rattle.group_world.specs.declared.event.Outcome.{Outcome}
use Rattle.group_world.specs.Processes.{Entry, IsCarried, entries_of, sent_in, typed_in}
use Rattle.group_process.specs.Runs.{AreInTurn, AreStarts, NodeStart, FailsToStart, GoesOn, IsGroupLog, IsLastIfOn, IsOver, Stand, Starts, entries_of_start, record_by, run_output, runs_in}

-- ---- one node

-- The records that a restart may find after a start, which might find these before. After a run
-- they are the one that it has, and the changed one of a save that failed or was cut off; whatever
-- was found before its own start, its save of that has written over. A start whose save failed or
-- was cut off may have been made, and leaves the rest as it was.
-- Allows: A record that a read found, and that a crash takes back.
abbrev pub found_after : List Record → NodeStart → List Record
found_after found (Starts run) = record_by run (IsOver false) ∷ record_by run (IsOver true) ∷ []
found_after found (FailsToStart loaded is_changed) = changed loaded change.Start ∷ found

-- A start over a disk on which a restart may find these records. Its load gives one of them.
-- Forbids: A load that gives another record; a start while a run goes on.
abbrev pub IsRestart : Parts → Me → List Record → NodeStart → List NodeStart → Type 0
IsRestart p me found (Starts run) rest =
    Contains found run.process.loaded × IsProcess p me run.process run.last
    × IsLastIfOn run.stand rest
IsRestart p me found (FailsToStart loaded is_changed) rest =
    Contains found loaded × (loaded.starts ≢ LAST_START)

-- The starts of a node, one after the other, over a disk. Each load gives a record that a restart
-- may find after the start before it. Which one a failed save has left is not asked.
-- Allows: A start that loads what a start before it did not find any more.
abbrev pub AreRestarts : Parts → Me → List Record → List NodeStart → Type 0
AreRestarts p me = AreInTurn (IsRestart p me) found_after

-- Both runs go on, or both are over.
abbrev pub IsSameStand : Stand → Stand → Type 0
IsSameStand GoesOn s = s ≡ GoesOn
IsSameStand (IsOver is_changed) GoesOn = ⊥
IsSameStand (IsOver is_changed) (IsOver other) = Unit {0}

-- The runs are these starts, in order, with the same deeds. What was left is chosen anew: which
-- record a failed save has left, and which of the starts whose save failed have been.
-- Allows: the same choice.
-- Forbids: a run left out; another deed in it.
abbrev pub AreChosenRuns : List NodeStart → List NodeStart → Type 0
AreChosenRuns [] starts = starts ≡ []
AreChosenRuns (Starts run ∷ rest) starts =
    (stand : Stand) × (others : List NodeStart) × IsSameStand run.stand stand
    × (starts ≡ Starts (record run { stand = stand }) ∷ others) × AreChosenRuns rest others
AreChosenRuns (FailsToStart loaded is_changed ∷ rest) starts =
    AreChosenRuns rest starts
    ⊎ ((others : List NodeStart) × (starts ≡ FailsToStart loaded true ∷ others)
    × AreChosenRuns rest others)

-- All that is seen of starts is the same: what their runs did, and the nodes after it; what was
-- sent, typed and released, in order.
pub record AreSeenSame (me : Me) (xs ys : List NodeStart) : Type 0 where
  pub processes : map (λ run. run.process) (runs_in ys) ≡ map (λ run. run.process) (runs_in xs)
  pub nodes : map (λ run. run.last) (runs_in ys) ≡ map (λ run. run.last) (runs_in xs)
  pub released : map run_output (runs_in ys) ≡ map run_output (runs_in xs)
  pub sent : sent_in (flat_map (entries_of_start me) ys)
      ≡ sent_in (flat_map (entries_of_start me) xs)
  pub typed : typed_in (flat_map (entries_of_start me) ys)
      ≡ typed_in (flat_map (entries_of_start me) xs)

-- The claim that starts over a disk are runs over a store that keeps its record.
abbrev pub HaveRuns : Parts → Me → Record → List NodeStart → Type 0
HaveRuns p me kept restarts =
    (starts : List NodeStart) × AreStarts p me kept starts × AreChosenRuns restarts starts

-- ---- a group

-- The second log is the first one without some entries at which nothing was sent or typed, and with
-- other outcomes of saves that failed.
abbrev pub IsChosenLog : List Entry → List Entry → Type 0
IsChosenLog [] log = log ≡ []
IsChosenLog (e ∷ es) log =
    ((e.sent ≡ []) × (e.typed ≡ []) × IsChosenLog es log)
    ⊎ ((save : Outcome) × (rest : List Entry) × (log ≡ record e { save = save } ∷ rest)
    × IsChosenLog es rest)

-- A log of the processes of a group over their disks, in one order of time.
pub record IsDiskLog (p : Parts) (group : Group) (restarts : ℕ → List NodeStart)
    (log : List Entry) : Type 0 where
  pub among : AllByRecursion (λ e. IsNode group.size e.node) log
  pub entries : (i : ℕ) → entries_of i log
      ≡ flat_map (entries_of_start (record { node = i; group = group })) (restarts i)
  pub started : (i : ℕ)
      → AreRestarts p (record { node = i; group = group }) (empty_record ∷ []) (restarts i)
  pub carried : IsCarried group [] log

-- A log over stores that keep their records, whose runs are those of a log over disks.
pub record IsKeptLog (p : Parts) (group : Group) (restarts starts : ℕ → List NodeStart)
    (log kept : List Entry) : Type 0 where
  pub ran : IsGroupLog p group starts kept
  pub chosen : (i : ℕ) → AreChosenRuns (restarts i) (starts i)
  pub same : IsChosenLog log kept

-- The claim that a log over disks is one over stores that keep their records.
abbrev pub HasKeptLog : Parts → Group → (ℕ → List NodeStart) → List Entry → Type 0
HasKeptLog p group restarts log =
    (starts : ℕ → List NodeStart) × (kept : List Entry) × IsKeptLog p group restarts starts log kept
