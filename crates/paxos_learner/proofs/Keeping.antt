-- What a learner keeps stays true when a place is learned, and when the front rises.
use Rattle.std.proofs.Common.{◌≡◌, ◌∙◌, ◌⊎◌, inl, inr, ℕ, ◌+◌, ◌<◌, ◌≤◌, List, [], ◌∷◌, ◌++◌, length, cond, ◌==◌, slice_index, length-append, arith, zero, suc, ◌*◌, max, min, take, drop, map, IsTrue, Option, None, Some, is_some, refl, sym, ap, subst}
use Rattle.std.specs.Prelude.{Contains}
use Rattle.std.proofs.lemmas.Bool.{cases_lt}
use Rattle.std.proofs.lemmas.List.{get_or_append_left, get_or_push, length_push, append-nil, take_all, take-append-le, take-append-drop, map-append}
use Rattle.std.proofs.lemmas.Bool.Decides.{nat_tests}
use Rattle.paxos_msg.specs.declared.value.Value.{Value}
use Rattle.paxos_msg.specs.Keys.{Key, keys_of}
use Rattle.paxos_learner.specs.Input.{StandsIn, keys_in_order, values_below, input_of, front_values}
use Rattle.paxos_learner.specs.Entered.{keys_with, Entered, count_below}
use Rattle.paxos_learner.proofs.KeyTests.{entered, entered_longer, keys_entered}
use Rattle.std.specs.Ordering.{nat_cmp}
use Rattle.std.specs.FinMap.{FinMap, get, insert}
use Rattle.paxos_learner.specs.Kept.{AreKeptAbove, IsInputOf, IsKept}
use Rattle.paxos_learner.proofs.ValuesBelow.{values_more, same_below}
use Rattle.paxos_learner.proofs.OnePlace.{get_put}
use Rattle.paxos_learner.specs.Learner.{front_of}
use Rattle.paxos_learner.proofs.Fronts.{front_found}

-- ---- how many keys there were after each place

-- there are no fewer keys with more
pub no_fewer : (keys : List Key) (v : Value) → length keys ≤ length (keys_with keys v)
no_fewer keys v = grind (arith, entered_longer keys (keys_of v), length-append)

module _ (ends more : List ℕ) (last : ℕ) (is : more ≡ ends ++ last ∷ []) where
  -- there is one place more
  pub longer : length more ≡ length ends + 1
  longer = grind (arith, length_push)

  -- this one ends there, and the places before end where they did
  pub ends_at : (s : ℕ) → s < length more → slice_index more s ≡ cond (s == length ends) last (slice_index ends s)
  ends_at s low = grind (arith, nat_tests, length_push, get_or_append_left, get_or_push)

-- ---- a place is learned

module _ (learned : FinMap nat_cmp Value) (e new : Entered) (s : ℕ) (v : Value) (h : IsInputOf learned e)
    (none : get learned s ≡ None) where
  -- the places so far have the values that they had
  same_values : (n : ℕ) → n ≤ length e.ends → values_below (insert learned s v) n ≡ values_below learned n
  same_values n low =
      same_below (insert learned s v) learned n (λ q less. grind (arith, nat_tests, get_put learned s v q, h.below q))

  -- the input is that of the map with this place more, once there is room for it
  pub input_of_more : new.keys ≡ e.keys → new.ends ≡ e.ends → e.room ≤ new.room → e.key_room ≤ new.key_room
      → s < length e.ends + new.room → 32 * (s + 1) ≤ new.key_room + 32 * length e.ends → s < 65536 → IsInputOf (insert learned s v) new
  input_of_more keys ends room key_room there keys_there small = grind (arith, get_put, same_values)

-- ---- the front rises

-- the next place enters the input
module _ (learned : FinMap nat_cmp Value) (e : Entered) (v : Value) (new : Entered) (h : IsInputOf learned e)
    (here : get learned (length e.ends) ≡ Some v) (keys : new.keys ≡ keys_with e.keys v)
    (ends : new.ends ≡ e.ends ++ length new.keys ∷ []) where
  -- the keys are those of one value more
  all_keys : new.keys ≡ keys_in_order (values_below learned (length e.ends + 1))
  all_keys =
      grind (arith, append-nil (keys_of v), keys_entered (values_below learned (length e.ends)) (v ∷ []), values_more learned)

  -- a front of the keys is one of the keys with more
  front_stays : (n : ℕ) → n ≤ length e.keys → take n new.keys ≡ take n e.keys
  front_stays n low = grind (arith, entered_longer e.keys (keys_of v), take-append-le)

  -- the input is that of the same map
  pub input_of_risen : e.room ≤ new.room + 1 → e.key_room ≤ new.key_room + 32 → IsInputOf learned new
  input_of_risen room key_room =
      let n = length new.keys in
      let at = ends_at e.ends new.ends n ends in
      let whole : take n new.keys ≡ new.keys = take_all n new.keys (omega arith) in
      grind (arith, nat_tests, longer, at, whole, all_keys, front_stays, no_fewer e.keys v)

-- ---- the input from a place on

module _ (learned : FinMap nat_cmp Value) (e : Entered) (h : IsInputOf learned e) where
  -- the keys so far, up to a place
  count_below_keys : (place : ℕ) → take (count_below e place) e.keys ≡ keys_in_order (values_below learned (min place (length e.ends)))
  count_below_keys zero = grind arith
  count_below_keys (suc s) = grind (arith, take_all)

  -- the input up to a place, and what comes after it, are the input
  pub input_parts : (place : ℕ) → input_of (values_below learned (min place (length e.ends)))
      ++ map (λ (k : Key). k.byte) (drop (count_below e place) e.keys)
      ≡ input_of (values_below learned (length e.ends))
  input_parts place =
      let n = count_below e place in
      grind (arith, count_below_keys place, map-append (λ (k : Key). k.byte) (take n e.keys) (drop n e.keys), take-append-drop)

-- ---- all that a learner keeps

-- what is not learned is not below the end of the input
pub not_below : (learned : FinMap nat_cmp Value) (e : Entered) (s : ℕ) → IsInputOf learned e → get learned s ≡ None → length e.ends ≤ s
not_below learned e s h none = elim (cases_lt s (length e.ends)) [
  | inl low ↦ let there = h.below s low in absurd (grind (arith, none, there))
  | inr past ↦ past
]

-- A value is learned at a place from the front on. Its keys are kept, unless the place is the front: then the front has risen past
-- it.
module _ (learned : FinMap nat_cmp Value) (front top : ℕ) (keys : List Key) (s : ℕ) (v : Value) (h : AreKeptAbove learned front top keys)
    (none : get learned s ≡ None) (from : front ≤ s) where
  stand_more : (new : List Key) → (k : Key) → Contains keys k → StandsIn (insert learned s v) k
  stand_more new k there =
      let at = h.stand k there in
      let still : get (insert learned s v) at.place ≡ Some at.value =
      grind (arith, nat_tests, get_put learned s v at.place, at.is_learned) in
      record { place = at.place; value = at.value; is_learned = still; has = at.has }

  -- a key of a value from the front on is kept, or is one of the new ones
  either_has : (q : ℕ) (w : Value) (k : Key) → get (insert learned s v) q ≡ Some w → Contains (keys_of w) k → front ≤ q
      → Contains keys k ⊎ Contains (keys_of v) k
  either_has q w k e has past = elim (cases_lt q s) [
    | inl before ↦ inl (h.all q w (grind (arith, nat_tests, get_put learned s v q, e, before)) past k has)
    | inr most ↦ elim (cases_lt s q) [
      | inl after ↦ inl (h.all q w (grind (arith, nat_tests, get_put learned s v q, e, after)) past k has)
      | inr least ↦
          let same : Some v ≡ Some w = grind (arith, nat_tests, get_put learned s v q, e, most, least) in
          let value : v ≡ w = cc in
          inr (subst (λ u. Contains (keys_of u) k) (sym value) has)
    ]
  ]

  pub above_more : (new : List Key) (risen : ℕ) → (s ≤ front → new ≡ keys) → (front < s → new ≡ keys_with keys v) → front ≤ risen
      → get (insert learned s v) risen ≡ None → AreKeptAbove (insert learned s v) risen (max top (s + 1)) new
  above_more new risen next later up here = elim (cases_lt front s) [
    | inl hole ↦ record {
      stand = λ k there. elim ((entered keys (keys_of v) k).0 (rw (later hole) at there)) [
        | inl old ↦ stand_more new k old
        | inr its ↦ record { place = s; value = v; is_learned = grind (arith, nat_tests, get_put learned s v s); has = its }
      ];
      all = λ q w e past k has. rw (later hole) ((entered keys (keys_of v) k).1 (either_has q w k e has (omega (arith, up, past))));
      below = λ q there. grind (arith, nat_tests, get_put learned s v q, h.below q);
    }
    | inr at_front ↦ record {
      stand = λ k there. stand_more new k (rw (next at_front) at there);
      all = λ q w e past k has.
          let old : get learned q ≡ Some w =
          grind (arith, nat_tests, get_put learned s v q, get_put learned s v risen, e, here, up, past, from, at_front) in
          rw (next at_front) (h.all q w old (omega (arith, up, past)) k has);
      below = λ q there. grind (arith, nat_tests, get_put learned s v q, h.below q);
    }
  ]

-- none is kept if no learned place is above the front
pub above_passed : (learned : FinMap nat_cmp Value) (front top : ℕ) (keys new : List Key) → AreKeptAbove learned front top keys
    → (top ≤ front → new ≡ []) → (front < top → new ≡ keys) → AreKeptAbove learned front top new
above_passed learned front top keys new h passed kept = elim (cases_lt front top) [
  | inl some ↦ rw (kept some) h
  | inr none ↦ record {
    stand = λ k there. let (x, less, at) = rw (passed none) at there in absurd (omega (arith, less));
    all = λ q w e past k has. absurd (grind (arith, nat_tests, e, h.below q, none, past));
    below = h.below;
  }
]

-- ---- which keys the input has

some_there : {A : Type 0} (o : Option A) → IsTrue (is_some o) → (x : A) × (o ≡ Some x)
some_there None h = absurd cc
some_there (Some x) h = (x, refl)

module _ (learned : FinMap nat_cmp Value) where
  -- those of the values below
  pub read_stands : (n : ℕ) → ((s : ℕ) → s < n → IsTrue (is_some (get learned s))) → (k : Key)
      → Contains (keys_in_order (values_below learned n)) k → StandsIn learned k
  read_stands zero below k (x, less, at) = absurd (omega (arith, less))
  read_stands (suc n) below k there =
      let (v, is) = some_there (get learned n) (below n (omega arith)) in
      let more : keys_in_order (values_below learned (suc n)) ≡ keys_with (keys_in_order (values_below learned n)) v =
      grind (arith, append-nil (keys_of v), keys_entered (values_below learned n) (v ∷ []), values_more learned n v) in
      elim ((entered (keys_in_order (values_below learned n)) (keys_of v) k).0 (rw more at there)) [
        | inl old ↦ read_stands n (λ s less. below s (omega (arith, less))) k old
        | inr its ↦ record { place = n; value = v; is_learned = is; has = its }
      ]

  -- each of them
  pub stands_read : (n s : ℕ) (v : Value) → ((q : ℕ) → q < n → IsTrue (is_some (get learned q))) → s < n → get learned s ≡ Some v
      → (k : Key) → Contains (keys_of v) k → Contains (keys_in_order (values_below learned n)) k
  stands_read zero s v below less is k has = absurd (omega (arith, less))
  stands_read (suc n) s v below less is k has =
      let (w, last) = some_there (get learned n) (below n (omega arith)) in
      let more : keys_in_order (values_below learned (suc n)) ≡ keys_with (keys_in_order (values_below learned n)) w =
      grind (arith, append-nil (keys_of w), keys_entered (values_below learned n) (w ∷ []), values_more learned n w) in
      rw more ((entered (keys_in_order (values_below learned n)) (keys_of w) k).1 (elim (cases_lt s n) [
        | inl before ↦ inl (stands_read n s v (λ q low. below q (omega (arith, low))) before is k has)
        | inr at_last ↦
            let same : s ≡ n = omega (arith, less, at_last) in
            let one : Some v ≡ Some w = sym is ∙ ap (get learned) same ∙ last in
            let value : v ≡ w = cc in
            inr (subst (λ u. Contains (keys_of u) k) value has)
      ]))

module _ {size : ℕ} {learned : FinMap nat_cmp Value} {e : Entered} {top : ℕ} {above : List Key}
    (h : IsKept size learned e top above) where
  -- the places of the input are those below the front
  pub front_is : length e.ends ≡ front_of learned
  front_is = front_found learned (length e.ends) (record { below = h.input.below; here = h.here })

  -- so its keys are those of the values there
  pub keys_are : e.keys ≡ keys_in_order (front_values learned)
  keys_are = rw (← front_is) h.input.keys

  -- a key of the input or above it stands in a learned value
  pub kept_stands : (k : Key) → Contains (keys_in_order (front_values learned)) k ⊎ Contains above k → StandsIn learned k
  kept_stands k (inl read) = read_stands learned (length e.ends) h.input.below k (rw front_is read)
  kept_stands k (inr there) = h.keys.stand k there

  -- and the other way round
  pub stands_kept : (k : Key) → StandsIn learned k → Contains (keys_in_order (front_values learned)) k ⊎ Contains above k
  stands_kept k at = elim (cases_lt at.place (length e.ends)) [
    | inl low ↦ inl (rw (← front_is) (stands_read learned (length e.ends) at.place at.value h.input.below low at.is_learned k at.has))
    | inr high ↦ inr (h.keys.all at.place at.value at.is_learned high k at.has)
  ]
