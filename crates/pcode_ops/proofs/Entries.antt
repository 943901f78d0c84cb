-- The entries of a case table, one after the other.
use Rattle.std.proofs.Common.{◌≡◌, ℕ, zero, suc, ◌+◌, ◌*◌, ◌-◌, ◌<◌, ◌&&◌, ◌↔◌, true, List, refl, arith, Bool}
use Rattle.std.proofs.lemmas.Bool.{and_parts, and_from}
use Rattle.std.proofs.lemmas.Bool.Decides.{nat_tests}
use Rattle.pcode_file.specs.declared.file.Proc.{Proc}
use Rattle.pcode_ops.specs.Loading.{leads_in, entries_in}
use Rattle.pcode_ops.specs.Rules.{PointsTo}

-- the test of a self-relative pointer as a fact
pub pointing : (segment : List ℕ) (q : Proc) (place : ℕ) → (leads_in segment q place ≡ true) ↔ ((t : ℕ) × PointsTo segment q place t)
pointing segment q place = grind (arith, nat_tests)

-- the test of all entries as a fact of each
pub entries_point : (segment : List ℕ) (q : Proc) (table n : ℕ)
    → (entries_in segment q table n ≡ true) ↔ ((k : ℕ) → k < n → (t : ℕ) × PointsTo segment q (table + 2 * k) t)
unfolding entries_in
entries_point segment q table zero = (λ e k lt. absurd (omega arith), λ h. refl)
entries_point segment q table (suc n) =
    let first : table + 2 * 0 ≡ table = omega arith in
    let later : (k : ℕ) → table + 2 * suc k ≡ table + 2 + 2 * k = λ k. omega arith in
    let rest = entries_point segment q (table + 2) n in (
      λ e. (let both = and_parts _ _ e in elim [
        | zero ↦ λ lt. rw first ((pointing segment q table).0 both.0)
        | suc k ↦ λ lt. rw (later k) (rest.0 both.1 k (omega arith))
      ]),
      λ h. and_from _ _ ((pointing segment q table).1 (rw first at (h 0 (omega arith))))
          (rest.1 (λ k lt. rw (later k) at (h (suc k) (omega arith)))),
    )

-- ---- as a loop tests them

-- the test of an entry and of those after it, where all before it were passed
pub entries_step : (segment : List ℕ) (q : Proc) (t n k : ℕ) (b : Bool) → k < n → leads_in segment q (t + 2 * k) ≡ b
    → entries_in segment q (t + 2 * k) (n - k) ≡ entries_in segment q t n
    → (b && entries_in segment q (t + 2 * (k + 1)) (n - (k + 1))) ≡ entries_in segment q t n
unfolding entries_in
entries_step segment q t n k b lt one same =
    let next : n - k ≡ suc (n - (k + 1)) = omega arith in
    let place : t + 2 * k + 2 ≡ t + 2 * (k + 1) = omega arith in
    rw (← one, ← place) (rw next at same)
