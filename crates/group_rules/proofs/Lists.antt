-- Elements of lists, and numbers in a row.
use Rattle.std.proofs.Common.{◌≡◌, ◌∙◌, ℕ, zero, suc, ◌+◌, ◌-◌, ◌<◌, ◌≤◌, Bool, true, false, List, [], ◌∷◌, ◌++◌, map, length, Some, Option, inl, inr, if◌then◌else◌, refl, sym, ap, arith}
use Rattle.std.proofs.lemmas.List.{get_or-map, length-map, map-id}
use Rattle.std.proofs.lemmas.List.Elements.{All-contains, All-contains_itself, All-filter, Contains-append_left, Contains-append_right, Contains-append_cases, filter_passes}
use Rattle.std.proofs.lemmas.List.FromFn.{length-range_with_len, get_or-range_with_len, map-range_with_len_more}
use Rattle.std.proofs.lemmas.Option.{slice_get-get_or, slice_get_within, get_or_from_slice_get}
use Rattle.std.proofs.lemmas.Bool.Decides.{nat_tests}
use Rattle.std.specs.List.{Contains, filter, filter_map, flat_map, slice_get, range_with_len}
use Rattle.group_protocol.proofs.Elements.{all_images, first_in, in_cases, none_in, rest_in}

-- ---- elements

-- an element of a list is at some index
pub place_of : {X : Type 0} (xs : List X) (x : X) → Contains xs x → (s : ℕ) × (slice_get xs s ≡ Some x)
place_of xs x (k, below, at) = (k, slice_get-get_or xs k x below ∙ ap (λ y. Some y) at)

pub in_from_place : {X : Type 0} (xs : List X) (s : ℕ) (x : X) → slice_get xs s ≡ Some x → Contains xs x
in_from_place xs s x e = (s, slice_get_within xs s x e, get_or_from_slice_get xs s x x e)

-- and at the same index of a longer list
pub left_place : {X : Type 0} (xs ys : List X) (s : ℕ) (x : X) → slice_get xs s ≡ Some x → slice_get (xs ++ ys) s ≡ Some x
left_place [] ys s x e = cc
left_place (y ∷ xs) ys zero x e = e
left_place (y ∷ xs) ys (suc s) x e = left_place xs ys s x e

-- the element after others
pub here_place : {X : Type 0} (xs : List X) (y : X) (ys : List X) → slice_get (xs ++ y ∷ ys) (length xs) ≡ Some y
here_place [] y ys = refl
here_place (x ∷ xs) y ys = here_place xs y ys

-- ---- elements of the images of lists

pub in_map : {X Y : Type 0} (f : X → Y) (xs : List X) (x : X) → Contains xs x → Contains (map f xs) (f x)
in_map f xs x (k, below, at) = (k, omega (arith, length-map xs f), get_or-map f xs k x (f x) below ∙ ap f at)

-- one more in front, or none
or_more : {X : Type 0} (more : Bool) (x : X) (xs : List X) (y : X) → Contains xs y → Contains (if more then x ∷ xs else xs) y
or_more true x xs y h = rest_in x xs y h
or_more false x xs y h = h

pub in_filter : {X : Type 0} (p : X → Bool) (xs : List X) (y : X) → Contains xs y → p y ≡ true → Contains (filter p xs) y
in_filter p [] y h t = absurd (none_in y h)
in_filter p (x ∷ xs) y (zero, below, at) t = rw (at, t) (first_in y (filter p xs))
in_filter p (x ∷ xs) y (suc k, below, at) t = or_more (p x) x _ y (in_filter p xs y (k, omega arith, at) t)

pub of_filter : {X : Type 0} (p : X → Bool) (xs : List X) (y : X) → Contains (filter p xs) y → Contains xs y × (p y ≡ true)
of_filter p xs y h = (
  All-contains (Contains xs) (filter p xs) y (All-filter p (Contains xs) xs (All-contains_itself xs)) h,
  All-contains (λ x. p x ≡ true) (filter p xs) y (filter_passes p xs) h,
)

pub in_flat_map : {X Y : Type 0} (f : X → List Y) (xs : List X) (x : X) (y : Y) → Contains xs x → Contains (f x) y
    → Contains (flat_map f xs) y
in_flat_map f [] x y h k = absurd (none_in x h)
in_flat_map f (z ∷ zs) x y h k =
    let later = in_flat_map f zs x y in grind (arith, nat_tests, in_cases, Contains-append_left, Contains-append_right, later)

pub of_flat_map : {X Y : Type 0} (f : X → List Y) (xs : List X) (y : Y) → Contains (flat_map f xs) y
    → (x : X) × Contains xs x × Contains (f x) y
of_flat_map f [] y h = absurd (none_in y h)
of_flat_map f (x ∷ xs) y h = elim (Contains-append_cases (f x) _ y h) [
  | inl here ↦ (x, first_in x xs, here)
  | inr later ↦ let found = of_flat_map f xs y later in (found.0, rest_in x xs found.0 found.1, found.2)
]

pub of_filter_map : {X Y : Type 0} (f : X → Option Y) (xs : List X) (y : Y) → Contains (filter_map f xs) y
    → (x : X) × Contains xs x × (f x ≡ Some y)
of_filter_map {X} {Y} f xs y h =
    let IsImage : Y → Type 0 = λ y. (x : X) × Contains xs x × (f x ≡ Some y) in
    All-contains IsImage (filter_map f xs) y (all_images IsImage f xs (λ x among. grind (arith, nat_tests))) h

-- a filter that nothing passes
pub filter_none : {X : Type 0} (p : X → Bool) (xs : List X) → ((x : X) → Contains xs x → p x ≡ false) → filter p xs ≡ []
filter_none p [] none = refl
filter_none p (x ∷ xs) none = rw (none x (first_in x xs)) (filter_none p xs (λ y h. none y (rest_in x xs y h)))

-- ---- numbers in a row

pub range_more : (a n j : ℕ) → a + n ≡ j → range_with_len a (n + 1) ≡ range_with_len a n ++ j ∷ []
range_more a n j e =
    sym (map-id _) ∙ map-range_with_len_more (λ x. x) a n j e ∙ ap (λ row. row ++ j ∷ []) (map-id (range_with_len a n))

pub in_range : (a n x : ℕ) → a ≤ x → x < a + n → Contains (range_with_len a n) x
in_range a n x low high =
    let k = x - a in
    (k, omega (arith, length-range_with_len a n), get_or-range_with_len a n k x (omega arith) ∙ omega arith)

pub of_range : (a n x : ℕ) → Contains (range_with_len a n) x → (a ≤ x) × (x < a + n)
of_range a n x (k, below, at) =
    grind (arith, length-range_with_len, get_or-range_with_len)
