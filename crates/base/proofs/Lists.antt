-- Elements of a list, of a longer one, and of its front: lemmas that std lacks.
use Rattle.std.proofs.Common.{◌⊎◌, ◌≡◌, ℕ, zero, suc, ◌+◌, ◌<◌, ◌≤◌, List, [], ◌∷◌, ◌++◌, length, take, drop, Option, Some, None, slice_get, All, refl, ap, inl, inr, arith}
use Rattle.std.proofs.lemmas.List.Elements.{All-cons, All-nil}

-- what is found is one
pub same_found : {A : Type 0} (o : Option A) (a b : A) → o ≡ Some a → o ≡ Some b → a ≡ b
same_found o a b e h = cc

-- what is there is there in a longer list
pub get_longer : {A : Type 0} (xs ys : List A) (i : ℕ) (x : A) → slice_get xs i ≡ Some x → slice_get (xs ++ ys) i ≡ Some x
get_longer [] ys i x e = absurd cc
get_longer (a ∷ xs) ys zero x e = e
get_longer (a ∷ xs) ys (suc i) x e = get_longer xs ys i x e

-- what is there with one more is there without it, or is the last
pub get_added : {A : Type 0} (xs : List A) (y : A) (i : ℕ) (x : A) → slice_get (xs ++ y ∷ []) i ≡ Some x
    → (slice_get xs i ≡ Some x) ⊎ ((i ≡ length xs) × (x ≡ y))
get_added [] y zero x e = inr (refl, cc)
get_added [] y (suc i) x e = absurd cc
get_added (a ∷ xs) y zero x e = inl e
get_added (a ∷ xs) y (suc i) x e = elim (get_added xs y i x e) [
  | inl h ↦ inl h
  | inr h ↦ inr (ap suc h.0, h.1)
]

-- what is there in the front is there
pub get_taken : {A : Type 0} (n : ℕ) (xs : List A) (i : ℕ) (x : A) → slice_get (take n xs) i ≡ Some x → (i < n) × (slice_get xs i ≡ Some x)
get_taken zero xs i x e = absurd cc
get_taken (suc n) [] i x e = absurd cc
get_taken (suc n) (a ∷ xs) zero x e = (omega arith, e)
get_taken (suc n) (a ∷ xs) (suc i) x e = let h = get_taken n xs i x e in (omega (arith, h.0), h.1)

-- what is there below a place is there in the front up to that place
pub get_in_front : {A : Type 0} (n : ℕ) (xs : List A) (i : ℕ) (x : A) → i < n → slice_get xs i ≡ Some x → slice_get (take n xs) i ≡ Some x
get_in_front zero xs i x h e = absurd (omega arith)
get_in_front (suc n) [] i x h e = absurd cc
get_in_front (suc n) (a ∷ xs) zero x h e = e
get_in_front (suc n) (a ∷ xs) (suc i) x h e = get_in_front n xs i x (omega arith) e

-- below its length there is an element
pub get_there : {A : Type 0} (xs : List A) (i : ℕ) → i < length xs → (x : A) × (slice_get xs i ≡ Some x)
get_there [] i h = absurd (omega arith)
get_there (a ∷ xs) zero h = (a, refl)
get_there (a ∷ xs) (suc i) h = get_there xs i (omega arith)

-- the one that is added is there
pub get_last : {A : Type 0} (xs : List A) (y : A) → slice_get (xs ++ y ∷ []) (length xs) ≡ Some y
get_last [] y = refl
get_last (a ∷ xs) y = get_last xs y

-- where there is no element the list has ended
pub get_none : {A : Type 0} (xs : List A) (i : ℕ) → slice_get xs i ≡ None → length xs ≤ i
get_none [] i e = omega arith
get_none (a ∷ xs) zero e = absurd cc
get_none (a ∷ xs) (suc i) e = omega (arith, get_none xs i e)

drop_suc : {A : Type 0} (n : ℕ) (xs : List A) (y : A) (ys : List A) → drop n xs ≡ y ∷ ys → ys ≡ drop (suc n) xs
drop_suc zero [] y ys e = absurd cc
drop_suc zero (x ∷ xs) y ys e = cc
drop_suc (suc n) [] y ys e = absurd cc
drop_suc (suc n) (x ∷ xs) y ys e = drop_suc n xs y ys e

-- what is left after one more
pub drop_next : {A : Type 0} (n : ℕ) (xs : List A) (y : A) (ys : List A) → drop n xs ≡ y ∷ ys → ys ≡ drop (n + 1) xs
drop_next n xs y ys e = let one : n + 1 ≡ suc n = omega arith in rw one (drop_suc n xs y ys e)

-- what holds of one holds of each of a list of it
pub all_of_one : {X : Type 0} (P : X → Type 0) (x : X) → P x → All P (x ∷ [])
all_of_one P x h = All-cons P x [] h (All-nil P)
