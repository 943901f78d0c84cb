-- Elements of lists that are written out and of images of lists, maps of nothing and of one value,
-- and sets of nodes.
use Rattle.std.proofs.lemmas.List.Elements.{All-contains, All-from_recursion, All-map, All-nil, Contains-append_cases, Contains-append_right, Contains-get_or}
use Rattle.std.proofs.lemmas.List.{nil_from_length}
use Rattle.std.specs.List.{All, AllByRecursion as EachOf, Contains, filter_map}
use Rattle.std.proofs.Common.{◌≡◌, ◌⊎◌, ◌∙◌, ◌+◌, ◌≤◌, IsTrue, Bool, ℕ, zero, suc, List, [], ◌∷◌, get_or, map, Option, IfSome, inl, inr, refl, sym, arith}
use Rattle.std.specs.Ordering.{nat_cmp}
use Rattle.std.specs.FinMap.{empty, entries, entries-insert, insert, len-empty, len-entries}
use Rattle.std.specs.Cmp.{nat_cmp_total}
use Rattle.paxos_msg.specs.Ballots.{count_of, IsMajority}
use Rattle.std.proofs.lemmas.Bool.Decides.{nat_tests}

-- ---- lists

pub none_in : {X : Type 0} (x : X) → Contains [] x → ⊥
none_in x (k, below, at) = omega arith

pub first_in : {X : Type 0} (x : X) (xs : List X) → Contains (x ∷ xs) x
first_in x xs = (0, omega arith, refl)

pub rest_in : {X : Type 0} (x : X) (xs : List X) (y : X) → Contains xs y → Contains (x ∷ xs) y
rest_in x xs y h = Contains-append_right (x ∷ []) xs y h

pub only_in : {X : Type 0} (x y : X) → Contains (x ∷ []) y → x ≡ y
only_in x y n = grind (arith, nat_tests)

pub in_cases : {X : Type 0} (x : X) (xs : List X) (y : X) → Contains (x ∷ xs) y → (x ≡ y) ⊎ Contains xs y
in_cases x xs y h = elim (Contains-append_cases (x ∷ []) xs y h) [ inl e ↦ inl (only_in x y e) | inr later ↦ inr later ]

-- what holds of each of these, as a tuple, holds of one of them
pub each_of : {X : Type 0} (P : X → Type 0) (xs : List X) (x : X) → EachOf P xs → Contains xs x → P x
each_of P xs x each among = All-contains P xs x (All-from_recursion P xs each) among

-- an element of the images of a list is the image of one of its elements
pub of_map : {X Y : Type 0} (f : X → Y) (xs : List X) (y : Y) → Contains (map f xs) y → (x : X) × Contains xs x × (f x ≡ y)
of_map {X} {Y} f xs y h =
    let IsImage : Y → Type 0 = λ y. (x : X) × Contains xs x × (f x ≡ y) in
    All-contains IsImage (map f xs) y (All-map IsImage f xs (λ k d below. (get_or xs k d, Contains-get_or xs k d below, refl))) h

-- what holds of each image that there is holds of all
pub all_images : {X Y : Type 0} (P : Y → Type 0) (f : X → Option Y) (xs : List X) → ((x : X) → Contains xs x → IfSome (f x) P)
    → All P (filter_map f xs)
all_images P f [] h = All-nil P
all_images P f (x ∷ xs) h =
    let first = h x (first_in x xs) in
    let rest = all_images P f xs (λ y among. h y (rest_in x xs y among)) in
    grind (arith, nat_tests)

-- ---- maps

pub entries_none : {X : Type 0} → entries (empty {X = X} {R = nat_cmp}) ≡ []
entries_none {X} = nil_from_length _ (sym (len-entries (empty {X = X} {R = nat_cmp})) ∙ len-empty nat_cmp X)

pub entries_one : {X : Type 0} (k : ℕ) (x : X) → entries (insert (empty {K = ℕ} {R = nat_cmp}) k x) ≡ (k, x) ∷ []
entries_one k x = entries-insert nat_cmp_total empty k x ∙ rw entries_none refl

-- ---- sets of nodes

-- a set of more nodes counts no fewer
pub count_grows : (p q : ℕ → Bool) (n : ℕ) → ((i : ℕ) → IsTrue (p i) → IsTrue (q i)) → count_of p n ≤ count_of q n
count_grows p q zero all = omega arith
count_grows p q (suc n) all = grind (arith, nat_tests, all (suc n), count_grows p q n all)

-- members that are all among half of the nodes or fewer are no majority
pub minority : (size : ℕ) (members among : ℕ → Bool) → count_of among size + count_of among size ≤ size
    → ((i : ℕ) → IsTrue (members i) → IsTrue (among i)) → ¬ IsMajority size members
minority size members among low within h =
    grind (arith, count_grows members among size within)
