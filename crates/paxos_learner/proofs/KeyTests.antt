-- The keys of values: each once, and as a test finds them.
use Rattle.std.proofs.Common.{◌≡◌, ◌↔◌, ◌∙◌, not, ◌||◌, ◌⊎◌, Bool, true, false, IsTrue, List, [], ◌∷◌, ◌++◌, filter, append_assoc, inl, inr, refl, sym, ap, arith, ℕ, T, map, Some}
use Rattle.std.specs.Prelude.{Contains}
use Rattle.std.proofs.lemmas.Bool.{or_cases}
use Rattle.std.proofs.lemmas.List.{append-nil}
use Rattle.std.proofs.lemmas.List.Concat.{flat_map-append}
use Rattle.std.proofs.lemmas.Map.Views.{Contains-from_any, list_any-from_Contains}
use Rattle.std.proofs.lemmas.Map.Steps.{list_any_congr}
use Rattle.std.proofs.lemmas.List.Folds.{list_any-append}
use Rattle.std.specs.Cmp.{IsEquivalence}
use Rattle.std.specs.List.{list_any, flat_map}
use Rattle.std.proofs.lemmas.Grind.{common_steps}
use Rattle.std.proofs.lemmas.Bool.Decides.{nat_tests}
use Rattle.indexmap.specs.IndexSet.{insert_all, insert_key}
use Rattle.base.proofs.Branches.{either}
use Rattle.paxos_msg.specs.declared.value.Value.{Value}
use Rattle.paxos_msg.specs.Keys.{Key, keys_of}
use Rattle.paxos_learner.specs.Input.{same_key, firsts, keys_in_order, has_key, is_learned, StandsIn}
use Rattle.std.specs.Ordering.{nat_cmp}
use Rattle.std.specs.FinMap.{FinMap, entries, entries_sorted, find, get-entries, is_sorted}
use Rattle.paxos_learner.proofs.Fronts.{found_above}

-- ---- typed keys

-- two keys are the same exactly if they are equal
pub same_keys : (k other : Key) → (same_key k other ≡ true) ↔ (k ≡ other)
same_keys k other = grind (arith, nat_tests)

same_equiv : IsEquivalence same_key
same_equiv = grind (arith, nat_tests)

-- a test finds a key exactly if it is there
pub found : (keys : List Key) (k : Key) → IsTrue (list_any (same_key k) keys) ↔ Contains keys k
found keys k = (Contains-from_any (λ x y. (same_keys x y).0) k keys, list_any-from_Contains same_equiv k keys)

-- a key that is put in comes last, or nothing changes
insert_longer : (keys : List Key) (k : Key) → (rest : List Key) × (insert_key same_key keys k ≡ keys ++ rest)
insert_longer keys k =
    either (λ all. (rest : List Key) × (all ≡ keys ++ rest)) (list_any (same_key k) keys) ([], sym (append-nil keys)) (k ∷ [], refl)

-- keys that are put in come last
pub entered_longer : (keys more : List Key) → (rest : List Key) × (insert_all same_key keys more ≡ keys ++ rest)
entered_longer keys [] = ([], sym (append-nil keys))
entered_longer keys (k ∷ more) =
    let one = insert_longer keys k in
    let all = entered_longer (insert_key same_key keys k) more in
    (one.0 ++ all.0, grind (arith, all.1, one.1, append_assoc keys one.0 all.0))

-- a key is found among those that are unlike another one exactly if it is found
any_unlike : (x k : Key) (keys : List Key) → same_key x k ≡ false
    → list_any (same_key k) (filter (λ other. not (same_key x other)) keys) ≡ list_any (same_key k) keys
any_unlike x k [] e = refl
any_unlike x k (y ∷ keys) e = grind (arith, nat_tests, any_unlike x k keys)

-- one more key is the last, or is there already
pub firsts_push : (keys : List Key) (k : Key) → firsts (keys ++ k ∷ []) ≡ insert_key same_key (firsts keys) k
firsts_push [] k = refl
firsts_push (x ∷ keys) k =
    grind (arith, common_steps, firsts_push keys k, any_unlike x k (firsts keys))

-- the keys of a list more, one after another
firsts_all : (keys more : List Key) → firsts (keys ++ more) ≡ insert_all same_key (firsts keys) more
firsts_all keys [] = ap firsts (append-nil keys)
firsts_all keys (k ∷ more) =
    rw (← append_assoc keys (k ∷ []) more, ← firsts_push keys k) (firsts_all (keys ++ k ∷ []) more)

-- the keys of more values
pub keys_entered : (values more : List Value)
    → keys_in_order (values ++ more) ≡ insert_all same_key (keys_in_order values) (flat_map keys_of more)
keys_entered values more = ap firsts (flat_map-append keys_of values more) ∙ firsts_all (flat_map keys_of values) (flat_map keys_of more)

-- ---- which keys there are

-- a test finds the keys that are put in, and those that were there
entered_any : (keys more : List Key) (k : Key)
    → list_any (same_key k) (insert_all same_key keys more) ≡ (list_any (same_key k) keys || list_any (same_key k) more)
entered_any keys [] k = grind (arith, nat_tests)
entered_any keys (x ∷ more) k =
    grind (arith, nat_tests, entered_any (insert_key same_key keys x) more k, list_any_congr same_equiv k x keys, list_any-append)

pub entered : (keys more : List Key) (k : Key) → Contains (insert_all same_key keys more) k ↔ (Contains keys k ⊎ Contains more k)
entered keys more k =
    grind (arith, nat_tests, found (insert_all same_key keys more) k, found keys k, found more k, entered_any keys more k)

-- ---- keys of learned values

module _ (f : Value → Bool) where
  -- of sorted entries, if one passes, one that passes is found at its place
  any_found : (es : List (ℕ × Value)) → T (is_sorted nat_cmp es) → list_any f (map (λ e. e.1) es) ≡ true
      → (q : ℕ) × (v : Value) × (find nat_cmp q es ≡ Some v) × (f v ≡ true)
  any_found [] sorted h = absurd cc
  any_found (e ∷ es) sorted h = elim (or_cases (f e.1) (list_any f (map (λ d. d.1) es)) h) [
    | inl passes ↦ (e.0, e.1, grind (arith, nat_tests), passes)
    | inr others ↦
        let at = any_found es (grind (arith, nat_tests)) others in
        (at.0, at.1, grind (arith, nat_tests, at.2, found_above), at.3)
  ]

  -- what is found and passes is one that passes
  found_any : (es : List (ℕ × Value)) (q : ℕ) (v : Value) → find nat_cmp q es ≡ Some v → f v ≡ true
      → list_any f (map (λ e. e.1) es) ≡ true
  found_any [] q v is passes = absurd cc
  found_any (e ∷ es) q v is passes = grind (arith, nat_tests, found_any es q v)

-- a test finds a key exactly if it stands in a learned value
pub found_learned : (learned : FinMap nat_cmp Value) (k : Key) → IsTrue (is_learned learned k) ↔ StandsIn learned k
found_learned learned k = (
  λ h. grind (arith, any_found (λ v. has_key (keys_of v) k) (entries learned) (entries_sorted learned) h, get-entries, found),
  λ s. grind (arith, found_any (λ v. has_key (keys_of v) k) (entries learned) s.place s.value, get-entries, found),
)
