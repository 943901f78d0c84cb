-- What a restart may load, as records.
use Rattle.std.proofs.Common.{◌≡◌, ℕ, List, [], Option, Some, None, Result, Ok, Err, IsOk, inl, inr, sym, ◌∙◌, subst}
use Rattle.paxos_msg.specs.Batches.{Record}
use Rattle.paxos_msg.specs.Fits.{IsGroup}
use Rattle.paxos_msg.specs.Records.{empty_record}
use Rattle.paxos_acceptor.specs.declared.me.Me.{Me}
use Rattle.paxos_acceptor.specs.declared.store.StoreFault.{StoreFault}
use Rattle.paxos_disk.specs.Disks.{Folder, MayFind, Remains, seen_in}
use Rattle.paxos_disk.specs.Found.{LoadsNoMore, LoadsNoMoreBut, MayLoad}
use Rattle.paxos_disk.specs.Reads.{IsGood, Reads, Restarts, record_in}
use Rattle.paxos_disk.proofs.DiskCalls.{seen_is_left}
use Rattle.paxos_disk.proofs.Headers.{one_reader}

no_file : (folder : Folder) (me : Me) (r : Record) (left : Option (List ℕ)) → folder.file ≡ None → folder.others ≡ []
    → MayFind folder left → Reads me left r → r ≡ empty_record
no_file folder me r left file others (inl gone) reads =
    let none : left ≡ None = (rw file at gone) in
    subst (λ (o : Option (List ℕ)). Reads me o r) none reads
no_file folder me r left file others (inr any) reads = absurd (rw others at any)

pub none_loads : (folder : Folder) (r : Record) → folder.file ≡ None → folder.others ≡ [] → MayLoad folder r → r ≡ empty_record
none_loads folder r file others may = no_file folder may.me r may.left file others may.found may.reads

pub load_leaves : (old new : Folder) → Remains old new → LoadsNoMore old new
load_leaves old new h r may =
    record { me = may.me; left = may.left; in_range = may.in_range; found = h.left may.left may.found; reads = may.reads }

module _ (me : Me) (small : IsGroup me.group)
    (read : (found : Option (List ℕ)) (r : Record) → Reads me found r → record_in me found ≡ r) where
  -- whoever reads it reads one record
  pub one_read : (other : Me) (left : Option (List ℕ)) (r s : Record) → IsGroup other.group → Reads me left r → Reads other left s
      → s ≡ r
  one_read other None r s less first second = second ∙ sym first
  one_read other (Some bytes) r s less first second =
      let same = one_reader me other bytes r s small less first second in
      let mine = subst (λ (m : Me). Reads m (Some bytes) s) same second in
      sym (read (Some bytes) s mine) ∙ read (Some bytes) r first

  pub seen_loads : (folder : Folder) → IsGood me (seen_in folder) → MayLoad folder (record_in me (seen_in folder))
  seen_loads folder (r, reads) = record {
    me = me;
    left = seen_in folder;
    in_range = small;
    found = seen_is_left folder;
    reads = subst (λ (s : Record). Reads me (seen_in folder) s) (sym (read (seen_in folder) r reads)) reads;
  }

  pub saved_loads : (old new : Folder) (r next : Record) (result : Result (Unit {0}) StoreFault)
      → Restarts me old new r next result → IsOk result → (s : Record) → MayLoad new s → s ≡ next
  saved_loads old new r next (Ok x) h ok s may =
      one_read may.me may.left next s may.in_range (h.saved may.left may.found) may.reads
  saved_loads old new r next (Err e) h ok s may = absurd cc

  pub save_leaves : (old new : Folder) (next : Record) (result : Result (Unit {0}) StoreFault) → IsGood me (seen_in old)
      → Restarts me old new (record_in me (seen_in old)) next result → LoadsNoMoreBut old next new
  save_leaves old new next result good h s may = elim (h.left may.left may.found) [
    | inl before ↦
        inl (record { me = may.me; left = may.left; in_range = may.in_range; found = before; reads = may.reads })
    | inr (inl old_one) ↦
        inl (subst (λ (q : Record). MayLoad old q)
        (sym (one_read may.me may.left (record_in me (seen_in old)) s may.in_range old_one may.reads)) (seen_loads old good))
    | inr (inr new_one) ↦ inr (one_read may.me may.left next s may.in_range new_one may.reads)
  ]
