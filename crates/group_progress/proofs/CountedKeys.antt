-- How many keys wait at the first nodes of a group.
use Rattle.std.proofs.Common.{◌≡◌, ◌≢◌, ◌∙◌, ◌⊎◌, inl, inr, ℕ, zero, suc, ◌+◌, ◌-◌, ◌≤◌, Bool, true, false, IsTrue, List, [], ◌∷◌, ◌++◌, length, flat_map, refl, sym, ap, subst, arith, if◌then◌else◌, append-nil, length-append}
use Rattle.std.specs.List.{range_with_len}
use Rattle.std.proofs.lemmas.Grind.{flat_map-append}
use Rattle.std.proofs.lemmas.Bool.{cases_eq}
use Rattle.paxos_msg.specs.Keys.{Key}
use Rattle.group_rules.proofs.Lists.{range_more}

module _ (members : ℕ → Bool) (keys : ℕ → List Key) where
  -- the keys of a node, if it is meant
  abbrev keys_of_one : ℕ → List Key
  keys_of_one i = if members i then keys i else []

  -- how many keys the first `k` nodes have
  abbrev pub keys_to : ℕ → ℕ
  keys_to k = length (flat_map keys_of_one (range_with_len 1 k))

  one_more : (k : ℕ) → keys_to (suc k) ≡ keys_to k + length (keys_of_one (suc k))
  one_more k =
      let next : suc k ≡ k + 1 = omega arith in
      let row : range_with_len 1 (suc k) ≡ range_with_len 1 k ++ suc k ∷ [] = ap (range_with_len 1) next ∙ range_more 1 k (suc k)
      (omega arith) in
      ap (λ ks. length (flat_map keys_of_one ks)) row ∙ ap (λ (ks : List Key). length ks)
      (flat_map-append keys_of_one (range_with_len 1 k) (suc k ∷ []))
      ∙ length-append (flat_map keys_of_one (range_with_len 1 k)) (keys_of_one (suc k) ++ [])
      ∙ ap (λ (ks : List Key). keys_to k + length ks) (append-nil (keys_of_one (suc k)))

  pub keys_up : (k : ℕ) → IsTrue (members (suc k)) → keys_to (suc k) ≡ keys_to k + length (keys (suc k))
  keys_up k own = one_more k ∙ ap (λ (ks : List Key). keys_to k + length ks) (ap (λ b. if b then keys (suc k) else []) own)

  pub keys_more : (k : ℕ) → keys_to k ≤ keys_to (suc k)
  keys_more k = omega (arith, one_more k)

  pub keys_within : (k n : ℕ) → k ≤ n → keys_to k ≤ keys_to n
  keys_within k n low = by (n - k) n (omega (arith, low)) where
    by : (d n : ℕ) → n ≡ k + d → keys_to k ≤ keys_to n
    by zero n is = let same : n ≡ k = omega arith in omega (arith, ap keys_to same)
    by (suc d) n is =
        let same : n ≡ suc (k + d) = omega arith in
        omega (arith, by d (k + d) refl, keys_more (k + d), ap keys_to same)

-- where one node has a key more and the others have what they had, there is one more at most
module _ (members : ℕ → Bool) (keys more : ℕ → List Key) (i : ℕ) (here : length (more i) ≤ length (keys i) + 1)
    (others : (j : ℕ) → j ≢ i → more j ≡ keys j) where
  here_more : length (keys_of_one members more i) ≤ length (keys_of_one members keys i) + 1
  here_more = elim (members i) as (λ b. length (if b then more i else []) ≤ length (if b then keys i else []) + 1) [
    | true ↦ here
    | false ↦ omega arith
  ]

  by_node : (k : ℕ) → (keys_to members more k ≤ keys_to members keys k) ⊎ ((i ≤ k) × (keys_to members more k ≤ keys_to members keys k + 1))
  by_node zero = inl (omega arith)
  by_node (suc k) =
      let before = one_more members keys k in
      let after = one_more members more k in
      elim (cases_eq (suc k) i) [
        | inl is ↦
            let at : length (keys_of_one members more (suc k)) ≤ length (keys_of_one members keys (suc k)) + 1 =
            subst (λ j. length (keys_of_one members more j) ≤ length (keys_of_one members keys j) + 1) (sym is) here_more in
            elim (by_node k) [
              | inl old ↦ inr (omega (arith, is), omega (arith, before, after, old, at))
              | inr past ↦ absurd (omega (arith, is, past.0))
            ]
        | inr other ↦
            let same : length (keys_of_one members more (suc k)) ≡ length (keys_of_one members keys (suc k)) =
            ap (λ (ks : List Key). length (if members (suc k) then ks else [])) (others (suc k) other) in
            elim (by_node k) [
              | inl old ↦ inl (omega (arith, before, after, old, same))
              | inr past ↦ inr (omega (arith, past.0), omega (arith, before, after, past.1, same))
            ]
      ]

  pub one_key_more : (k : ℕ) → keys_to members more k ≤ keys_to members keys k + 1
  one_key_more k = elim (by_node k) [ inl old ↦ omega (arith, old) | inr past ↦ past.1 ]
