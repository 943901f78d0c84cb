-- Pieces of a list's elements, one after the other.
use Rattle.std.proofs.Common.{◌≡◌, ◌∙◌, ℕ, zero, suc, ◌+◌, List, [], ◌∷◌, ◌++◌, flat_map, take, slice_get, Some, append-nil, append_assoc, sym, ap, arith}

-- the piece of the next element comes last
one_more : {X : Type 0} (f : X → List ℕ) (xs : List X) (i : ℕ) (x : X) → slice_get xs i ≡ Some x
    → flat_map f (take (suc i) xs) ≡ flat_map f (take i xs) ++ f x
one_more f [] i x e = absurd cc
one_more f (y ∷ xs) zero x e = append-nil (f y) ∙ cc
one_more f (y ∷ xs) (suc i) x e = ap (λ l. f y ++ l) (one_more f xs i x e) ∙ sym (append_assoc (f y) _ _)

-- a text with the pieces up to some element, and the same with the next one
pub next_piece : {X : Type 0} (f : X → List ℕ) (xs : List X) (i : ℕ) (x : X) (old head now new : List ℕ) → slice_get xs i ≡ Some x
    → now ≡ old ++ (head ++ flat_map f (take i xs)) → new ≡ now ++ f x → new ≡ old ++ (head ++ flat_map f (take (i + 1) xs))
next_piece f xs i x old head now new e was is =
    let next : i + 1 ≡ suc i = omega arith in
    let pieces = flat_map f (take i xs) in
    rw (next, one_more f xs i x e)
    (is ∙ ap (λ l. l ++ f x) was ∙ append_assoc old (head ++ pieces) (f x) ∙ ap (λ l. old ++ l) (append_assoc head pieces (f x)))
