-- The values below a place, as a list, and the input that they are: what they depend on, and how
-- they grow.
use Rattle.std.proofs.Common.{◌≡◌, ℕ, zero, suc, ◌+◌, ◌-◌, ◌<◌, ◌≤◌, List, [], ◌∷◌, ◌++◌, length, slice_get, Some, refl, arith, map}
use Rattle.std.specs.List.{filter_map, range_with_len, flat_map}
use Rattle.std.specs.Ordering.{nat_cmp}
use Rattle.std.specs.FinMap.{FinMap, get}
use Rattle.std.proofs.lemmas.Bool.Decides.{nat_tests}
use Rattle.paxos_msg.specs.declared.value.Value.{Value}
use Rattle.paxos_learner.specs.Input.{values_below, front_values, keys_in_order, input_of, learned_input}
use Rattle.paxos_learner.specs.Learner.{front_of, HasLearnedMore}
use Rattle.paxos_learner.proofs.Fronts.{IsFront-front_of}
use Rattle.std.proofs.lemmas.List.{map-append, length-append}
use Rattle.std.proofs.lemmas.List.Elements.{filter_map-append}
use Rattle.std.proofs.lemmas.Option.{gets}
use Rattle.std.proofs.lemmas.Grind.{common_steps}
use Rattle.paxos_msg.specs.Keys.{Key, keys_of}
use Rattle.paxos_learner.proofs.KeyTests.{entered_longer, keys_entered}
use Rattle.paxos_learner.proofs.Hearing.{front_rises}

-- numbers in a row are the first ones and the others
range_parts : (a n k m : ℕ) → m ≡ n + k → range_with_len a m ≡ range_with_len a n ++ range_with_len (a + n) k
range_parts a zero k m e = grind arith
range_parts a (suc n) k zero e = absurd (omega arith)
range_parts a (suc n) k (suc m) e = grind (arith, range_parts (a + 1) n k m)

-- the values below a place are those below an earlier one, and those from there on
values_parts : (learned : FinMap nat_cmp Value) (n k m : ℕ) → m ≡ n + k
    → values_below learned m ≡ values_below learned n ++ filter_map (get learned) (range_with_len n k)
values_parts learned n k m e = grind (arith, range_parts 0 n k m, filter_map-append)

module _ (learned : FinMap nat_cmp Value) where
  -- one place more, with its value last
  pub values_more : (n : ℕ) (v : Value) → get learned n ≡ Some v → values_below learned (n + 1) ≡ values_below learned n ++ v ∷ []
  values_more n v e = grind (arith, values_parts learned n 1)

  -- maps that agree below n have the same values there
  pub same_below : (other : FinMap nat_cmp Value) (n : ℕ) → ((s : ℕ) → s < n → get learned s ≡ get other s)
      → values_below learned n ≡ values_below other n
  same_below other zero same = refl
  same_below other (suc n) same =
      grind (arith, values_parts learned n 1 (suc n), values_parts other n 1 (suc n), same n, same_below other n)

  -- up to the front each place has its value
  pub length_below : (n : ℕ) → n ≤ front_of learned → length (values_below learned n) ≡ n
  length_below zero low = refl
  length_below (suc n) low =
      grind (arith, nat_tests, values_parts learned n 1 (suc n), length_below n, (IsFront-front_of learned).below n, length-append)

  pub get_below : (n s : ℕ) → n ≤ front_of learned → s < n → slice_get (values_below learned n) s ≡ get learned s
  get_below n s low less =
      grind (arith, common_steps, gets, values_parts learned s (suc (n - s - 1)) n, length_below s, (IsFront-front_of learned).below s)

pub keys_longer : (values more : List Value) → (rest : List Key) × (keys_in_order (values ++ more) ≡ keys_in_order values ++ rest)
keys_longer values more =
    grind (arith, entered_longer (keys_in_order values) (flat_map keys_of more), keys_entered values more)

pub input_longer : (values more : List Value) → (rest : List ℕ) × (input_of (values ++ more) ≡ input_of values ++ rest)
input_longer values more =
    let h = keys_longer values more in
    (map (λ (k : Key). k.byte) h.0, grind (arith, h.1, map-append))

module _ (old new : FinMap nat_cmp Value) (h : HasLearnedMore old new) where
  pub front_grows : (more : List Value) × (front_values new ≡ front_values old ++ more)
  front_grows =
      let n = front_of old in
      let k = front_of new - n in
      let same = same_below new old n (λ s low. grind (arith, nat_tests, (IsFront-front_of old).below s low, h.stays s)) in
      (filter_map (get new) (range_with_len n k), grind (arith, same, values_parts new n k (front_of new), front_rises))

  pub learned_grows : (rest : List ℕ) × (learned_input new ≡ learned_input old ++ rest)
  learned_grows =
      grind (arith, input_longer (front_values old) front_grows.0)
