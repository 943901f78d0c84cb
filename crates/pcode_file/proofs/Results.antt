-- The results for each procedure.
use Rattle.std.proofs.Common.{◌≡◌, ◌↔◌, ℕ, zero, suc, ◌+◌, ◌-◌, ◌<◌, List, [], ◌∷◌, length, Some, Result, Ok, slice_get, refl, arith}
use Rattle.base.specs.Steps.{◌>>=◌}
use Rattle.pcode_file.specs.declared.fault.FileFault.{FileFault}
use Rattle.pcode_file.specs.Checks.{all_of, first_of}

-- what is left from place k on is one more than from the next place on
pub one_less : (n k : ℕ) → k < n → n - k ≡ suc (n - (k + 1))
one_less n k lt = omega arith

module _ {A : Type 0} (f : ℕ → Result A FileFault) where
  -- the first fault is the one that stops collecting
  pub first_is : (i n : ℕ) → first_of f i n ≡ (all_of f i n >>= λ xs. Ok tt)
  unfolding first_of all_of
  first_is i zero = refl
  first_is i (suc n) = grind (arith, first_is (i + 1) n)

  -- what was collected are n results
  pub all_length : (i n : ℕ) (xs : List A) → all_of f i n ≡ Ok xs → length xs ≡ n
  unfolding all_of
  all_length i zero xs h = grind arith
  all_length i (suc n) xs h = grind (arith, all_length (i + 1) n)

  -- what is collected is what f answers
  pub all_is : (i : ℕ) (xs : List A)
      → (all_of f i (length xs) ≡ Ok xs) ↔ ((k : ℕ) (x : A) → slice_get xs k ≡ Some x → f (i + k) ≡ Ok x)
  unfolding all_of
  all_is i [] = grind arith
  all_is i (x ∷ xs) = (
    λ h k y e. grind (arith, (all_is (i + 1) xs).0),
    λ h. grind (arith, h 0 x, (all_is (i + 1) xs).1 (λ k y e. grind (arith, h (suc k) y))),
  )
