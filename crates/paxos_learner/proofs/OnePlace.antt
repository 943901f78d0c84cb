-- A map with one place more, or without one.
use Rattle.std.proofs.Common.{◌≡◌, ◌∙◌, ℕ, ◌==◌, cond, Some, None, ap, arith}
use Rattle.std.specs.Ordering.{nat_cmp}
use Rattle.std.specs.Cmp.{nat_cmp_total, unsigned_tied}
use Rattle.std.specs.FinMap.{FinMap, get, insert, remove, get-insert, get-remove}
use Rattle.std.proofs.lemmas.Bool.Decides.{nat_tests}

module _ {X : Type 0} (m : FinMap nat_cmp X) (s : ℕ) where
  -- the place has what was put there, and the others what they had
  pub get_put : (x : X) (q : ℕ) → get (insert m s x) q ≡ cond (q == s) (Some x) (get m q)
  get_put x q = get-insert nat_cmp_total m s x q ∙ ap (λ b. cond b (Some x) (get m q)) (unsigned_tied q s)

  -- the place has nothing once it is taken out, and the others what they had
  pub get_cut : (q : ℕ) → get (remove m s) q ≡ cond (q == s) None (get m q)
  get_cut q = get-remove nat_cmp_total m s q ∙ ap (λ b. cond b None (get m q)) (unsigned_tied q s)

  -- the place has what was put there
  pub get_here : (x : X) → get (insert m s x) s ≡ Some x
  get_here x = grind (arith, nat_tests, get_put x s)

  -- what is left at a place after one was taken out was there
  pub get_left : (q : ℕ) (x : X) → get (remove m s) q ≡ Some x → get m q ≡ Some x
  get_left q x e = grind (arith, nat_tests, get_cut q)

  -- what holds of what is put at a place, and of what was at the others, holds of all
  pub each_put : (P : ℕ → X → Type 0) (x : X) → P s x → ((q : ℕ) (y : X) → get m q ≡ Some y → P q y) → (q : ℕ) (y : X)
      → get (insert m s x) q ≡ Some y → P q y
  each_put P x here there q y e = grind (arith, nat_tests, get_put x q)
