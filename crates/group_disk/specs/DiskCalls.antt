-- The calls of `run_over_disk` at one node, one after the other over one disk and at one terminal.
use Rattle.std.specs.Prelude.{◌≡◌, ℕ, Bool, false, true, List, [], ◌∷◌, Contains, flat_map, length, map, take, Option, None, Some, IfSome, Result}
use Rattle.std.specs.Option.{option_to_list}
use Rattle.pcode_file.specs.Parts.{Parts}
use Rattle.pcode_machine.specs.Runs.{IsPrefix}
use Rattle.paxos_acceptor.specs.Stores.{StoreKind}
use Rattle.paxos_acceptor.specs.declared.me.Me.{Me}
use Rattle.paxos_msg.specs.Batches.{Record}
use Rattle.paxos_disk.specs.Disks.{FindsNoMore, Folder, MayFind}
use Rattle.paxos_disk.specs.Found.{LoadsNoMore, disk_kind}
use Rattle.paxos_disk.specs.Reads.{IsFolderOf, LogState, Reads}
use Rattle.node_io.specs.declared.fault.GroupFault.{GroupFault}
use Rattle.group_process.specs.Runs.{IsOver, NodeRun, record_by, run_output, runs_in}
use Rattle.group_process.specs.Terminals.{TerminalRun, WriteInTurn, terminal_after}
use Rattle.node_run.specs.declared.cycles.RunPlan.{RunPlan}
use Rattle.node_run.specs.Course.{Surroundings}
use Rattle.node_run.specs.Runs.{RefusesToStart, RunsNode}
use Rattle.group_disk.specs.Folders.{AreOverDisk, DiskStart, starts_of}

-- A call of `run_over_disk`.
-- It has the store that the call begins with and the one that it gives back, its plan, what is
-- around its node before and after it, what its writer holds before and after it, its answer, and
-- the run of its process, if its start is not refused.
pub record DiskCall (D : Type 0) : Type 0 where
  pub store : LogState D
  pub end : LogState D
  pub plan : RunPlan
  pub from : Surroundings
  pub to : Surroundings
  pub before : Option (List ℕ)
  pub after : Option (List ℕ)
  pub result : Result (Unit {0}) GroupFault
  pub ran : Option NodeRun

-- A call that does what `run_over_disk` promises, with its cycles as the run of a process
-- (`cycles_are_a_run`): its start is refused, or this is that run, which is over.
-- Forbids: the run of another process.
abbrev pub IsCallWith : {D : Type 0} → StoreKind (LogState D) → Parts → Me → DiskCall D
    → Option NodeRun → Type 0
IsCallWith kind p me c None =
    RefusesToStart kind me p c.store c.end c.from c.to c.before c.after c.result
IsCallWith kind p me c (Some run) =
    (h : RunsNode kind me p c.store c.end c.plan c.from c.to c.before c.after c.result)
    × (is_changed : Bool) × (run ≡ record {
      process = h.runs.process;
      last = h.last;
      stand = IsOver is_changed;
    })

-- Calls over one disk, one after the other. Between them nothing is written: from what a call left,
-- whatever a crash has made of it, no more may be loaded.
abbrev pub AreDiskCalls : {D : Type 0} → Type 0 → (D → Folder) → Parts → Me → Folder
    → List (DiskCall D) → Type 0
AreDiskCalls honest folder_of p me folder [] = Unit {0}
AreDiskCalls honest folder_of p me folder (c ∷ calls) =
    LoadsNoMore folder (folder_of c.store.disk)
    × IsCallWith (disk_kind honest folder_of) p me c c.ran
    × AreDiskCalls honest folder_of p me (folder_of c.end.disk) calls

-- What `run_over_disk` promises of its disk (`good`): from a folder of the node comes one.
abbrev pub KeepsFolderOf : {D : Type 0} → (D → Folder) → Me → DiskCall D → Type 0
KeepsFolderOf folder_of me c =
    IsFolderOf me (folder_of c.store.disk) → IsFolderOf me (folder_of c.end.disk)

-- Calls that each keep that promise, over one disk. Between them a restart finds nothing in what a
-- call left, whatever a crash has made of it, that it could not find there before.
abbrev pub HandFolderOn : {D : Type 0} → (D → Folder) → Me → Folder → List (DiskCall D) → Type 0
HandFolderOn folder_of me folder [] = Unit {0}
HandFolderOn folder_of me folder (c ∷ calls) =
    FindsNoMore folder (folder_of c.store.disk) × KeepsFolderOf folder_of me c
    × HandFolderOn folder_of me (folder_of c.end.disk) calls

-- Whatever a restart of this node finds in the folder, it reads one of these records from it.
-- Forbids: A file that it cannot read.
abbrev pub FindsOneOf : Me → Folder → List Record → Type 0
FindsOneOf me folder records =
    (left : Option (List ℕ)) → MayFind folder left
    → (r : Record) × Reads me left r × Contains records r

-- A call that begins over a folder of its node, as `run_over_disk` requires, and leaves one. After
-- a run a restart reads the record of its process, or either of the two that a failed save leaves.
pub record FindsItsRecord {D : Type 0} (folder_of : D → Folder) (me : Me) (c : DiskCall D)
    : Type 0 where
  pub begins : IsFolderOf me (folder_of c.store.disk)
  pub leaves : IsFolderOf me (folder_of c.end.disk)
  pub finds : IfSome c.ran (λ run. FindsOneOf me (folder_of c.end.disk)
      (record_by run (IsOver false) ∷ record_by run (IsOver true) ∷ []))

-- The runs of the processes of these calls.
abbrev pub runs_of : {D : Type 0} → List (DiskCall D) → List NodeRun
runs_of calls = flat_map (λ c. option_to_list c.ran) calls

-- The claim that some starts over the folder of a disk have exactly these runs.
abbrev pub HaveStarts : Parts → Me → Folder → List NodeRun → Type 0
HaveStarts p me folder runs =
    (starts : List DiskStart) × AreOverDisk p me folder starts
    × (runs_in (starts_of starts) ≡ runs)

-- Calls at one terminal, one after the other: the writer of each holds the first bytes of what the
-- terminal had, and its plan is told how many these are. The terminal had `shown` before them, and
-- has `now` after them.
-- Allows: a terminal that has lost its end before a call.
abbrev pub AreCallsAt : {D : Type 0} → List ℕ → List (DiskCall D) → List ℕ → Type 0
AreCallsAt shown [] now = now ≡ shown
AreCallsAt shown (c ∷ calls) now =
    (kept : ℕ) × (left : List ℕ) × (c.before ≡ Some (take kept shown))
    × (c.plan.seen ≡ length (take kept shown)) × (c.after ≡ Some left)
    × AreCallsAt left calls now

-- The claim that these runs wrote in turn at a terminal that had `shown`, and that it has a prefix
-- of what they make of it: all of it, unless its end was lost.
abbrev pub WriteAt : List ℕ → List NodeRun → List ℕ → Type 0
WriteAt shown runs now =
    (wrote : List TerminalRun) × (map (λ run. run.released) wrote ≡ map run_output runs)
    × WriteInTurn shown wrote × IsPrefix now (terminal_after shown wrote)
