-- The records that a restart may load from a disk, apart from their bytes.
use Rattle.std.specs.Prelude.{◌≡◌, ◌⊎◌, ℕ, List, Contains, Option, Some, None}
use Rattle.paxos_msg.specs.Batches.{Record}
use Rattle.paxos_msg.specs.Fits.{IsGroup}
use Rattle.paxos_acceptor.specs.declared.me.Me.{Me}
use Rattle.paxos_acceptor.specs.Stores.{StoreKind}
use Rattle.paxos_disk.specs.Disks.{Folder, MayFind}
use Rattle.paxos_disk.specs.Files.{Finds}
use Rattle.paxos_disk.specs.Reads.{LogState, Reads, stored_in}

-- A restart may load the record: a node reads it from what a restart may find. Which node that is
-- the file's header says, so that no two nodes read one file.
-- Forbids: A record of a file that is not there, but the empty one.
pub record MayLoad (folder : Folder) (r : Record) : Type 0 where
  pub me : Me
  pub left : Option (List ℕ)
  pub in_range : IsGroup me.group
  pub found : MayFind folder left
  pub reads : Reads me left r

-- A restart loads one of these records, or none.
abbrev pub LoadsOnly : Folder → List Record → Type 0
LoadsOnly folder records = (r : Record) → MayLoad folder r → Contains records r

-- From the second disk a restart may load nothing that it may not load from the first, as after a
-- crash.
abbrev pub LoadsNoMore : Folder → Folder → Type 0
LoadsNoMore old new = (r : Record) → MayLoad new r → MayLoad old r

-- The same, but for this record.
abbrev pub LoadsNoMoreBut : Folder → Record → Folder → Type 0
LoadsNoMoreBut old next new = (r : Record) → MayLoad new r → MayLoad old r ⊎ (r ≡ next)

-- The kind of the stores on disks, each of which is made for one node, and which are honest where
-- their disk is. Such a store has the record of what is seen on its disk, and a restart may load
-- what it may load from the disk.
abbrev pub disk_kind : {D : Type 0} → Type 0 → (D → Folder) → StoreKind (LogState D)
disk_kind honest folder_of = record {
  honest = honest;
  fails_at_will = ⊥;
  state = λ s. record { stored = stored_in folder_of s; plan = None; faults = s.filed.faults };
  loads = λ old answer new. Finds old.filed new.filed answer;
  may_load = λ s r. MayLoad (folder_of s.disk) r;
  owner = λ s. Some s.filed.me;
}
