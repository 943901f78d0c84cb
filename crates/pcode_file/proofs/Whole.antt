-- The whole file: what is read is in the bytes, and what is in them is read.
use Rattle.std.proofs.Common.{◌≡◌, ◌↔◌, ℕ, zero, suc, ◌+◌, ◌-◌, ◌*◌, ◌<◌, ◌≤◌, List, Ok, arith}
use Rattle.std.specs.Prelude.{MatchOption}
use Rattle.std.proofs.lemmas.Bool.Decides.{nat_tests}
use Rattle.pcode_file.specs.Parts.{Parts, word}
use Rattle.pcode_file.specs.Checks.{used_from, entry_of, segment_of, read_from}
use Rattle.pcode_file.specs.InFile.{IsOnlyEntry, InFile}
use Rattle.pcode_file.proofs.Results.{all_length}
use Rattle.pcode_file.proofs.Procedures.{procs_found, procs_again, tables_read}

-- ---- the entry in use

-- no entry from `k` on and before `end` is in use
abbrev AreFree : List ℕ → ℕ → ℕ → Type 0
AreFree bytes k end = (j : ℕ) → k ≤ j → j < end → word bytes (4 * j + 2) ≡ 0

-- what the search finds is the first entry in use; if it finds none, none is in use
used_is_first : (bytes : List ℕ) (k n : ℕ) → MatchOption (used_from bytes k n) (AreFree bytes k (k + n))
    (λ m. (k ≤ m) × (m < k + n) × (0 < word bytes (4 * m + 2)) × AreFree bytes k m)
unfolding used_from
used_is_first bytes k zero = grind arith
used_is_first bytes k (suc n) = grind (arith, nat_tests, used_is_first bytes (k + 1) n)

-- the entry that is found is the only one in use
only_entry : (bytes : List ℕ) (k : ℕ) → IsOnlyEntry bytes k ↔ (entry_of bytes ≡ Ok k)
unfolding entry_of
only_entry bytes k = grind (arith, nat_tests, used_is_first bytes 0 16, used_is_first bytes (k + 1) (16 - (k + 1)))

-- ---- what is read

-- what is in the grammar is read, and what is read is in it
pub read_is : (bytes : List ℕ) (p : Parts) → InFile bytes p ↔ (read_from bytes ≡ Ok p)
unfolding read_from segment_of
read_is bytes p =
    grind (arith, nat_tests, only_entry, all_length, tables_read, procs_again p.segment p.procs, procs_found p.segment p.procs)
