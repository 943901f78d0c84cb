-- Case jumps: the word of each entry, and what holds of all words.
use Rattle.std.proofs.Common.{◌≡◌, ℕ, ◌+◌, ◌-◌, ◌*◌, ◌<◌, List, arith, ℤ, pos, ◌+ℤ◌, refl, sym, ap, ◌∙◌, if◌then◌else◌, Bool, true, false, ◌&&◌}
use Rattle.std.specs.Prelude.{int_le, unsigned_abs, ◌-ℤ◌, ◌≤ℤ◌}
use Rattle.std.specs.Int.{w16, cast_signed}
use Rattle.std.proofs.lemmas.Bool.Decides.{nat_tests}
use Rattle.std.proofs.lemmas.Int.{ints, to_z-of_z}
use mir.Val.{SFits, of_z, to_z}
use Rattle.pcode_ops.specs.At.{cases}
use Rattle.pcode_ops.specs.Jumps.{case_of, pointed_by}

-- signed words of the same bits are the same
pub one_number : {a b : ℤ} → SFits w16 a → SFits w16 b → of_z w16 a ≡ of_z w16 b → a ≡ b
one_number {a} {b} fits fits2 same =
    sym (to_z-of_z w16 a fits) ∙ ap (to_z w16) same ∙ to_z-of_z w16 b fits2

-- the entry of a word within the bounds
in_table : (low high index : ℤ) → (int_le low index && int_le index high) ≡ true
    → unsigned_abs (index -ℤ low) < cases low high
in_table low high index within = grind (arith, ints, nat_tests)

-- the test of the word of an entry
in_bounds : (low high : ℤ) (k : ℕ) → k < cases low high
    → (int_le low (low +ℤ pos k) && int_le (low +ℤ pos k) high) ≡ true
in_bounds low high k less = grind (arith, ints, nat_tests)

-- the number of an entry is at most the upper bound
pub entry_within : (low high : ℤ) (k : ℕ) → k < cases low high → (low +ℤ pos k) ≤ℤ high
entry_within low high k less = grind (arith, ints, nat_tests)

-- the word of an entry leads to what the entry points to
pub entry_of : (segment : List ℕ) (low high : ℤ) (table k word : ℕ) → k < cases low high
    → cast_signed w16 word ≡ low +ℤ pos k
    → case_of segment low high table word ≡ pointed_by segment (table + 2 * k)
entry_of segment low high table k word less is =
    let within = in_bounds low high k less in
    let at : unsigned_abs ((low +ℤ pos k) -ℤ low) ≡ k = omega (arith, ints) in
    rw (is, within, at) refl

module _ (P : ℕ → ℕ → Type 0) (code other : List ℕ) (low high : ℤ) (table other_table : ℕ)
    (entries : (k : ℕ) → k < cases low high
    → P (pointed_by code (table + 2 * k)) (pointed_by other (other_table + 2 * k)))
    (default : P (table - 2) (other_table - 2)) where
  -- what holds of entries and default holds by the test of the bounds
  by_test : (index : ℤ) (b : Bool) → (int_le low index && int_le index high) ≡ b
      → P (if b then pointed_by code (table + 2 * unsigned_abs (index -ℤ low)) else table - 2)
      (if b then pointed_by other (other_table + 2 * unsigned_abs (index -ℤ low))
      else other_table - 2)
  by_test index true e = entries (unsigned_abs (index -ℤ low)) (in_table low high index e)
  by_test index false e = default

  -- what holds of entries and default holds of where each word leads
  pub cases_alike : (word : ℕ)
      → P (case_of code low high table word) (case_of other low high other_table word)
  cases_alike word = by_test (cast_signed w16 word) _ refl
