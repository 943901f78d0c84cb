-- The record of a file's bytes is the one that a load reads.
use Rattle.std.proofs.Common.{◌≡◌, ◌↔◌, ℕ, zero, suc, ◌<◌, ◌≤◌, List, [], ◌∷◌, ◌++◌, append_assoc, drop, length, Some, None, Ok, Err, inl, inr, refl, sym, ap, ◌∙◌, arith, rules, length-append}
use Rattle.std.proofs.lemmas.Bool.Decides.{nat_tests}
use Rattle.paxos_msg.specs.Batches.{Change, Record}
use Rattle.paxos_msg.specs.Fits.{AreBytes}
use Rattle.paxos_msg.specs.Records.{changed, empty_record}
use Rattle.paxos_acceptor.specs.declared.me.Me.{Me}
use Rattle.paxos_disk.specs.declared.record.version.Version.{Version}
use Rattle.paxos_disk.specs.declared.record.version.Version.TheVariants.{One, Two}
use Rattle.paxos_disk.specs.declared.log.ending.Ending.{Ending}
use Rattle.paxos_disk.specs.declared.log.ending.Ending.TheVariants.{Cut, Torn}
use Rattle.paxos_disk.specs.Ending.{IsLogEnd}
use Rattle.paxos_disk.specs.Entries.{entries_bytes, entry_bytes}
use Rattle.paxos_disk.specs.Files.{IsWritten}
use Rattle.paxos_disk.specs.Log.{AreEntries, LogBy, folded, log_header}
use Rattle.paxos_disk.specs.LogReading.{entry_at}
use Rattle.paxos_disk.specs.Reads.{entered, read_or, enter_next, record_in, version_in}
use Rattle.paxos_disk.specs.RecordReading.{record_at}
use Rattle.paxos_disk.specs.Records.{Rec}
use Rattle.paxos_disk.specs.Version1.{Rec1}
use Rattle.paxos_disk.proofs.Fields.{others_of}
use Rattle.paxos_disk.proofs.LogFolds.{EntriesAreRead, whole}
use Rattle.paxos_disk.proofs.store.log_store.records_are_read.Goals as goal

-- ---- the entries of a log

module _ (F : EntriesAreRead) (ending : Ending) (version : Version) (size : ℕ) where
  -- no entry is read at the end
  nothing_at_end : (next : Record → List ℕ → Record) (r : Record) (bytes : List ℕ) → AreBytes bytes → IsLogEnd ending version size bytes
      → enter_next next r (entry_at version size bytes) ≡ r
  nothing_at_end next r bytes are ends =
      (elim (entry_at version size bytes) as (λ read. entry_at version size bytes ≡ read → enter_next next r read ≡ r) [
        | Err e ↦ λ is. refl
        | Ok x ↦ λ is. absurd (whole ending version size bytes x.0 x.1 ((F version size bytes x.0 x.1 are).0 is) ends)
      ]) refl

  -- each entry has a byte
  one_byte : (c : Change) → 0 < length (entry_bytes version c)
  one_byte x = grind (arith, nat_tests)

  -- the record after the whole entries is the one that they fold to
  entered_folds : (n : ℕ) (r : Record) (cs : List Change) (end : List ℕ) → length (entries_bytes version cs) ≤ n
      → AreBytes (entries_bytes version cs ++ end) → AreEntries version size r cs → IsLogEnd ending version size end
      → entered version size n r (entries_bytes version cs ++ end) ≡ folded r cs
  entered_folds zero r [] end le are entries ends = refl
  entered_folds (suc n) r [] end le are entries ends = nothing_at_end (entered version size n) r end are ends
  entered_folds zero r (c ∷ cs) end le are entries ends =
      absurd (omega (arith, one_byte c, length-append (entry_bytes version c) (entries_bytes version cs)))
  entered_folds (suc n) r (c ∷ cs) end le are entries ends =
      let parts = append_assoc (entry_bytes version c) (entries_bytes version cs) end in
      let long = length-append (entry_bytes version c) (entries_bytes version cs) in
      let shorter : length (entries_bytes version cs) ≤ n = omega (arith, one_byte c, long) in
      rw ((F version size _ c _ are).1 (record { in_ranges = entries.0.in_ranges; is_for = entries.1; spelled = parts }))
      (entered_folds n (changed r c) cs end shorter (others_of _ (entry_bytes version c) _ are parts) entries.2 ends)

module _ (F : EntriesAreRead) (me : Me) (bytes : List ℕ) (are : AreBytes bytes)
    (two : (r : Record) → (record_at Two me bytes ≡ Ok r) ↔ Rec me bytes r)
    (one : (r : Record) → (record_at One me bytes ≡ Ok r) ↔ Rec1 me bytes r) where
  -- where no record is read, the other counts
  not_read : (version : Version) {other : Record} → ((s : Record) → ¬ (record_at version me bytes ≡ Ok s))
      → read_or (record_at version me bytes) other ≡ other
  not_read version none = grind arith

  record_of_log : (ending : Ending) (version : Version) (r : Record) (n : ℕ) → LogBy ending version me bytes r n
      → record_in me (Some bytes) ≡ r
  record_of_log ending version r n h =
      let fold = h.3.1 in
      let entries = entries_bytes version h.3.0 in
      let e : bytes ≡ log_header version me ++ (entries ++ h.1) = rw (h.2, fold.spelled) refl in
      let long = ap (λ (l : List ℕ). length l) e in
      let is : version_in bytes ≡ version = grind (arith, nat_tests, h.2) in
      let folds = entered_folds F ending version me.group.size (length bytes) empty_record h.3.0 h.1
      (omega (arith, length-append entries h.1, long)) (others_of _ (log_header version me) _ are e) fold.entries fold.ends in
      not_read Two (λ s is. grind (arith, (two s).0 is)) ∙ not_read One (λ s is. grind (arith, (one s).0 is))
      ∙ rw (is, ap (λ (l : List ℕ). drop 9 l) e) folds ∙ sym fold.all

  record_is : (r : Record) → IsWritten me bytes r → record_in me (Some bytes) ≡ r
  record_is r (inl (inl h)) = rw ((two r).1 h) refl
  record_is r (inl (inr (inl h))) = not_read Two (λ s is. grind (arith, (two s).0 is)) ∙ rw ((one r).1 h) refl
  record_is r (inl (inr (inr h))) = record_of_log Cut One r h.0 h.1
  record_is r (inr h) = record_of_log (Torn (length bytes)) Two r h.0 h.1

pub returns : goal.returns
returns c None r h = sym h
returns c (Some bytes) r (are, h) =
    let read = c.record_is_spelling.ensures in
    record_is c.entry_is_spelling.ensures c.args.me bytes are (λ s. read.two _ bytes s (search rules) are)
    (λ s. read.one _ bytes s (search rules) are) r h
