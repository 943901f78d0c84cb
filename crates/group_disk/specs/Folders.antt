-- The starts of a node's process over the folder of one disk.
use Rattle.std.specs.Prelude.{ℕ, flat_map, ◌≡◌, ◌≢◌, ◌⊎◌, true, false, List, [], ◌∷◌, None, map}
use Rattle.std.specs.List.{AllByRecursion}
use Rattle.paxos_msg.specs.declared.message.Group.{Group}
use Rattle.paxos_msg.specs.Fits.{IsNode}
use Rattle.group_world.specs.Processes.{Entry, IsCarried, entries_of}
use Rattle.pcode_file.specs.Parts.{Parts}
use Rattle.paxos_msg.specs.Batches.{Record}
use Rattle.paxos_msg.specs.declared.limits.TheConstants.{LAST_START}
use Rattle.paxos_msg.specs.declared.record.Change.TheVariants as change
use Rattle.paxos_msg.specs.Records.{changed}
use Rattle.paxos_acceptor.specs.declared.me.Me.{Me}
use Rattle.paxos_disk.specs.Disks.{Folder}
use Rattle.paxos_disk.specs.Found.{LoadsNoMore, LoadsNoMoreBut, LoadsOnly, MayLoad}
use Rattle.group_wire.specs.Process.{IsProcess}
use Rattle.group_process.specs.Network.{AreDelivered, GivenEntry, received_by, received_in}
use Rattle.group_process.specs.Runs.{NodeStart, FailsToStart, IsLastIfOn, IsOver, Starts, entries_of_start, record_by}

-- A start over a folder, and the folder that it leaves.
pub record DiskStart : Type 0 where
  pub before : Folder
  pub start : NodeStart
  pub after : Folder

-- These three, put together.
abbrev pub start_over : Folder → NodeStart → Folder → DiskStart
start_over before start after = record { before = before; start = start; after = after }

-- What a start makes of its folder. It loads a record that a restart may find. A run leaves its
-- record, or one of the two of a save that failed or was cut off. A start whose save failed or was
-- cut off leaves what it found, or the changed record.
-- Forbids: A process that loads the record of another folder; one that leaves another record.
abbrev pub IsOverDisk : Parts → Me → DiskStart → List DiskStart → Type 0
IsOverDisk p me s rest = by s.start where
  by : NodeStart → Type 0
  by (Starts run) =
      MayLoad s.before run.process.loaded × IsProcess p me run.process run.last
      × IsLastIfOn run.stand (map (λ (d : DiskStart). d.start) rest)
      × LoadsOnly s.after (record_by run (IsOver false) ∷ record_by run (IsOver true) ∷ [])
  by (FailsToStart loaded is_changed) =
      MayLoad s.before loaded × (loaded.starts ≢ LAST_START)
      × LoadsNoMoreBut s.before (changed loaded change.Start) s.after

-- What a start that was refused makes of its folder: its save failed; or no more may be loaded than
-- before.
-- Forbids: a record of another start.
abbrev pub LeavesNoMoreThan : Parts → Me → Folder → Folder → List DiskStart → Type 0
LeavesNoMoreThan p me before after rest =
    ((loaded : Record) × IsOverDisk p me (start_over before (FailsToStart loaded true) after) rest)
    ⊎ LoadsNoMore before after

-- The starts of a node over one disk, one after the other. Between them nothing is written: from
-- what a start left, whatever a crash or a load that came to nothing has made of it, no more may be
-- loaded.
abbrev pub AreOverDisk : Parts → Me → Folder → List DiskStart → Type 0
AreOverDisk p me folder [] = Unit {0}
AreOverDisk p me folder (s ∷ rest) =
    LoadsNoMore folder s.before × IsOverDisk p me s rest × AreOverDisk p me s.after rest

-- The starts alone.
abbrev pub starts_of : List DiskStart → List NodeStart
starts_of starts = map (λ s. s.start) starts

-- A folder without a record.
pub record IsNew (folder : Folder) : Type 0 where
  pub file : folder.file ≡ None
  pub others : folder.others ≡ []

-- A log of the processes of a group, in one order of time: each entry is of a node of the group,
-- those of each node are its starts over its own disk, on which there was no record at first, and
-- what is heard was sent before.
pub record IsFolderLog (p : Parts) (group : Group) (folder : ℕ → Folder)
    (starts : ℕ → List DiskStart) (log : List Entry) : Type 0 where
  pub among : AllByRecursion (λ e. IsNode group.size e.node) log
  pub entries : (i : ℕ) → entries_of i log
      ≡ flat_map (entries_of_start (record { node = i; group = group })) (starts_of (starts i))
  pub begun : (i : ℕ) → IsNew (folder i)
  pub started : (i : ℕ)
      → AreOverDisk p (record { node = i; group = group }) (folder i) (starts i)
  pub carried : IsCarried group [] log

-- The same log with what each receive gave, over a network that gives only what was handed to it.
pub record IsNetworkFolderLog (p : Parts) (group : Group) (folder : ℕ → Folder)
    (starts : ℕ → List DiskStart) (log : List GivenEntry) : Type 0 where
  pub among : AllByRecursion (λ e. IsNode group.size e.entry.node) log
  pub entries : (i : ℕ) → received_by i log
      ≡ flat_map (received_in (record { node = i; group = group })) (starts_of (starts i))
  pub begun : (i : ℕ) → IsNew (folder i)
  pub started : (i : ℕ)
      → AreOverDisk p (record { node = i; group = group }) (folder i) (starts i)
  pub delivered : AreDelivered group [] log
