-- The procedures of a segment: what is read is in the bytes, and what is in them is read.
use Rattle.std.proofs.Common.{◌≡◌, ℕ, zero, suc, ◌+◌, inl, inr, List, [], ◌∷◌, length, Some, Ok, slice_get, refl, arith}
use Rattle.std.proofs.lemmas.Bool.{cases_lt}
use Rattle.std.proofs.lemmas.Bool.Decides.{nat_tests}
use Rattle.pcode_file.specs.declared.file.Proc.{Proc}
use Rattle.pcode_file.specs.Checks.{table_of, table_at, past_table, low_from, low_of, proc_at, procedure_count, first_of, all_of}
use Rattle.pcode_file.specs.InFile.{HasTable, BeginsAt, HasProc, AreProcs}
use Rattle.pcode_file.proofs.Results.{all_is, all_length}

-- ---- one procedure

-- the table that is read is there
table_found : (segment : List ℕ) (n i t : ℕ) → table_at segment n i ≡ Ok t → HasTable segment n i t
unfolding table_at
table_found segment n i t h = record {
  pointer = grind (arith, nat_tests);
  even = grind (arith, nat_tests);
  above = grind (arith, nat_tests);
  below = grind (arith, nat_tests);
  counted = grind (arith, nat_tests);
  number = grind (arith, nat_tests);
  level = grind (arith, nat_tests);
  params = grind (arith, nat_tests);
  vars = grind (arith, nat_tests);
}

-- the procedure that is read is there, and its part begins where the dictionary says
proc_found : (segment : List ℕ) (n i : ℕ) (q : Proc) → proc_at segment n i ≡ Ok q
    → HasProc segment n i q × (q.low ≡ low_of segment n q.jtab)
unfolding proc_at
proc_found segment n i q h = grind (arith, nat_tests, table_found segment n i q.jtab (grind (arith, nat_tests)))

-- ---- where parts begin

-- a part begins where the dictionary says, if the dictionary's pointers lead to the tables
low_begins : (segment : List ℕ) (at i : ℕ) (procs : List Proc)
    → ((k : ℕ) (q : Proc) → slice_get procs k ≡ Some q → table_of segment (i + k) ≡ q.jtab)
    → BeginsAt procs at (low_from segment at i (length procs))
low_begins segment at i [] h = grind arith
low_begins segment at i (q ∷ procs) h =
    let rest = low_begins segment at (i + 1) procs (λ k p e. grind (arith, h (suc k) p)) in
    let here : table_of segment i ≡ q.jtab = grind (arith, h 0 q) in
    record {
      tables = grind (arith, nat_tests);
      first = elim (cases_lt (low_from segment at (i + 1) (length procs)) (past_table q.jtab at)) [
        | inl now ↦ inr (0, q, refl, grind (arith, nat_tests), grind (arith, nat_tests))
        | inr before ↦ elim rest.first [
          | inl none ↦ inl (grind (arith, nat_tests))
          | inr f ↦ inr (suc f.0, f.1, f.2, f.3, grind (arith, nat_tests))
        ]
      ];
    }

-- ---- all procedures

-- if procedures are read, their tables are
pub tables_read : (segment : List ℕ) (n i m : ℕ) (procs : List Proc) → all_of (proc_at segment n) i m ≡ Ok procs
    → first_of (table_at segment n) i m ≡ Ok tt
unfolding first_of all_of proc_at
tables_read segment n i zero procs h = refl
tables_read segment n i (suc m) procs h = grind (arith, tables_read segment n (i + 1) m)

module _ (segment : List ℕ) (procs : List Proc) where
  -- the procedures that are there are read
  pub procs_again : AreProcs segment procs → all_of (proc_at segment (length procs)) 1 (length procs) ≡ Ok procs
  unfolding proc_at table_at
  procs_again h =
      (all_is (proc_at segment (length procs)) 1 procs).1 (λ k q g.
      let begins = low_begins segment q.jtab 1 procs (λ j p e. grind (arith, h.each j p e)) in
      let low : q.low ≡ low_of segment (length procs) q.jtab = grind (arith, nat_tests, begins, h.lows k q g) in
      grind (arith, nat_tests, low, h.each k q g))

  -- the procedures that are read are there
  pub procs_found : (n : ℕ) → procedure_count segment ≡ Ok n → all_of (proc_at segment n) 1 n ≡ Ok procs → AreProcs segment procs
  procs_found n counted h =
      let many = all_length (proc_at segment n) 1 n procs h in
      let read = (all_is (proc_at segment (length procs)) 1 procs).0 (rw many h) in
      let there = λ (k : ℕ) (q : Proc) (g : slice_get procs k ≡ Some q). proc_found segment (length procs) (1 + k) q (read k q g) in
      record {
        some = grind (arith, nat_tests);
        dictionary = grind (arith, nat_tests);
        each = λ k q g. (there k q g).0;
        lows = λ k q g. rw ((there k q g).1) (low_begins segment q.jtab 1 procs (λ j p e. grind (arith, there j p e)));
      }
