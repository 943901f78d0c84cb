-- Starts over a folder, by the records that a restart may load.
use Rattle.std.proofs.Common.{◌≡◌, List, [], ◌∷◌, ℕ, Option, None, inl, inr, sym, subst}
use Rattle.std.specs.List.{Contains}
use Rattle.pcode_file.specs.Parts.{Parts}
use Rattle.paxos_msg.specs.Batches.{Record}
use Rattle.paxos_msg.specs.declared.record.Change.TheVariants as change
use Rattle.paxos_msg.specs.Records.{changed, empty_record}
use Rattle.paxos_msg.specs.declared.message.Group.{Group}
use Rattle.group_world.specs.Processes.{Entry}
use Rattle.paxos_disk.specs.Reads.{Reads}
use Rattle.paxos_acceptor.specs.declared.me.Me.{Me}
use Rattle.paxos_disk.specs.Disks.{Folder, MayFind}
use Rattle.paxos_disk.specs.Found.{LoadsOnly}
use Rattle.group_protocol.proofs.Elements.{first_in, rest_in}
use Rattle.group_process.specs.Runs.{NodeStart, FailsToStart, Starts}
use Rattle.group_disk.specs.Folders.{AreOverDisk, DiskStart, IsFolderLog, IsNew, IsOverDisk, starts_of}
use Rattle.group_disk.specs.Restarts.{AreRestarts, IsDiskLog, IsRestart, found_after}

module _ (p : Parts) (me : Me) where
  start_is : (a : NodeStart) (before after : Folder) (rest : List DiskStart) (found : List Record) → LoadsOnly before found
      → IsOverDisk p me (record { before = before; start = a; after = after }) rest
      → IsRestart p me found a (starts_of rest) × LoadsOnly after (found_after found a)
  start_is (Starts run) before after rest found only (loads, process, last, leaves) =
      ((only run.process.loaded loads, process, last), leaves)
  start_is (FailsToStart loaded is_changed) before after rest found only (loads, spare, leaves) = (
    (only loaded loads, spare),
    λ r may. elim (leaves r may) [
      | inl old ↦ rest_in (changed loaded change.Start) found r (only r old)
      | inr e ↦ subst (λ (s : Record). Contains (changed loaded change.Start ∷ found) s) (sym e)
          (first_in (changed loaded change.Start) found)
    ],
  )

  pub folder_starts : (folder : Folder) (found : List Record) (starts : List DiskStart) → LoadsOnly folder found
      → AreOverDisk p me folder starts → AreRestarts p me found (starts_of starts)
  folder_starts folder found [] only h = tt
  folder_starts folder found (s ∷ rest) only (fewer, over, others) =
      let (restart, next) = start_is s.start s.before s.after rest found (λ r may. only r (fewer r may)) over in
      (restart, folder_starts s.after (found_after found s.start) rest next others)

  new_left : (folder : Folder) (other : Me) (r : Record) (left : Option (List ℕ)) → IsNew folder → MayFind folder left
      → Reads other left r → r ≡ empty_record
  new_left folder other r left new (inl gone) reads =
      let none : left ≡ None = (rw new.file at gone) in
      subst (λ (o : Option (List ℕ)). Reads other o r) none reads
  new_left folder other r left new (inr any) reads = absurd (rw new.others at any)

  new_loads : (folder : Folder) → IsNew folder → LoadsOnly folder (empty_record ∷ [])
  new_loads folder new r may =
      let is = new_left folder may.me r may.left new may.found may.reads in
      subst (λ (s : Record). Contains (empty_record ∷ []) s) (sym is) (first_in empty_record [])

  pub new_starts : (folder : Folder) (starts : List DiskStart) → IsNew folder → AreOverDisk p me folder starts
      → AreRestarts p me (empty_record ∷ []) (starts_of starts)
  new_starts folder starts new h = folder_starts folder (empty_record ∷ []) starts (new_loads folder new) h

pub folder_log : (p : Parts) (group : Group) (folder : ℕ → Folder) (starts : ℕ → List DiskStart) (log : List Entry)
    → IsFolderLog p group folder starts log → IsDiskLog p group (λ i. starts_of (starts i)) log
folder_log p group folder starts log h = record {
  among = h.among;
  entries = h.entries;
  started = λ i. new_starts p (record { node = i; group = group }) (folder i) (starts i) (h.begun i) (h.started i);
  carried = h.carried;
}
