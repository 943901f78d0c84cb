-- The keys of chosen values, each once, are in order if each value was due; and in an ordered world
-- each was.
use Rattle.std.proofs.Common.{slice_get, Some, ◌≡◌, ◌∙◌, ℕ, ◌+◌, ◌<◌, ◌≤◌, Bool, true, false, List, [], ◌∷◌, ◌++◌, length, if◌then◌else◌, refl, sym, ap, subst, inl, inr, append_assoc, arith, IsTrue, ◌↔◌, append-nil}
use Rattle.std.proofs.lemmas.Bool.{cases_lt, both_ways}
use Rattle.std.proofs.lemmas.Bool.Decides.{nat_tests}
use Rattle.std.proofs.lemmas.List.Elements.{Contains-append_left, Contains-append_right, Contains-get_or, Contains-push}
use Rattle.std.proofs.lemmas.List.Quantifiers.{all_pairs_push}
use Rattle.std.proofs.lemmas.List.Concat.{flat_map-append}
use Rattle.std.proofs.lemmas.Option.{slice_get-get_or, slice_get_within}
use Rattle.std.specs.List.{Contains, flat_map, range_with_len}
use Rattle.paxos_msg.specs.Keys.{Key, keys_from, keys_of}
use Rattle.indexmap.specs.IndexSet.{insert_key}
use Rattle.paxos_learner.specs.Input.{same_key, has_key, firsts, keys_in_order}
use Rattle.paxos_msg.specs.declared.value.Value.{Value}
use Rattle.paxos_msg.specs.declared.value.Value.TheVariants.{Keys}
use Rattle.paxos_msg.specs.Chosen.{IsChosen}
use Rattle.group_node.specs.Inputs.{AreChosen}
use Rattle.group_rules.specs.Rules.{WorldState}
use Rattle.group_rules.specs.Claims.{HaveOneName, AreApart, AreInOrder, is_of, serials_of}
use Rattle.group_rules.specs.Invariants.{HasSerial, IsDue, IsOrdered}
use Rattle.group_rules.specs.Invariants.{IsGroupSound}
use Rattle.group_rules.proofs.Lists.{here_place, of_filter, left_place, in_filter, place_of, in_from_place, in_flat_map, of_flat_map, in_range, of_range}
use Rattle.group_rules.proofs.Output.{ChoiceLaws, typed_of}
use Rattle.group_rules.proofs.Rows.{own_serial, apart_same, of_test, other_more, row_more, serial_in, serial_of, has_in}
use Rattle.group_protocol.proofs.Elements.{first_in, in_cases, rest_in}

-- all keys of these values, in order
abbrev all_keys : List Value → List Key
all_keys values = flat_map keys_of values

-- each node, start and serial is there once, and those of each start of each node are in order
pub record AreOrderly (keys : List Key) : Type 0 where
  pub once : AreApart keys
  pub order : AreInOrder keys

-- The laws of the crates below: one key more, when keys are the same or among others, and what is
-- chosen.
pub record OrderLaws : Type 0 where
  pub more : (keys : List Key) (k : Key) → firsts (keys ++ k ∷ []) ≡ insert_key same_key (firsts keys) k
  pub same : (k other : Key) → (same_key k other ≡ true) ↔ (k ≡ other)
  pub has : (keys : List Key) (k : Key) → IsTrue (has_key keys k) ↔ Contains keys k
  pub choice : ChoiceLaws

-- ---- the firsts of keys

-- each of them is one of the keys
of_firsts : (keys : List Key) (x : Key) → Contains (firsts keys) x → Contains keys x
of_firsts [] x h = h
of_firsts (k ∷ keys) x h = elim (in_cases k _ x h) [
  | inl e ↦ subst (Contains (k ∷ keys)) e (first_in k keys)
  | inr later ↦ rest_in k keys x (of_firsts keys x (of_filter _ (firsts keys) x later).0)
]

-- ---- one key more keeps the order

-- what a key needs to come after others: its serial is 1, or one of the others has the serial
-- before
data Follows (keys : List Key) (node start serial : ℕ) : Type 0 where
  begins : serial ≡ 1 → Follows keys node start serial
  goes_on : (before : ℕ) → before + 1 ≡ serial → HasSerial keys node start before → Follows keys node start serial

-- the keys so far are in order, and a key that is not among them follows
module _ (keys : List Key) (k : Key) (h : AreOrderly keys) (follows : Follows keys k.node k.start k.serial)
    (new : (x : Key) → Contains keys x → HaveOneName x k → ⊥) where
  -- its serial is the one after the last
  next_serial : (n : ℕ) → serials_of k.node k.start keys ≡ range_with_len 1 n → 1 + n ≡ k.serial
  next_serial n e =
      let (low, high) = around follows in
      let past : ¬ (k.serial < 1 + n) = λ within.
      let has = serial_of keys k.node k.start k.serial (rw e (in_range 1 n k.serial low within)) in
      new has.key has.among (record { node = has.node_is; start = has.start_is; serial = has.serial_is }) in
      omega arith
    where
      around : Follows keys k.node k.start k.serial → (1 ≤ k.serial) × (k.serial ≤ n + 1)
      around (begins one) = (omega arith, omega arith)
      around (goes_on before next has) =
          let inside = of_range 1 n before (subst (λ l. Contains l before) e (serial_in keys k.node k.start before has)) in
          (omega arith, omega (arith, inside.1))

  -- no key is there twice, and the order goes on with it
  next_orderly : AreOrderly (keys ++ k ∷ [])
  next_orderly = record {
    once =
        all_pairs_push (λ (x y : Key). ¬ HaveOneName x y) keys k h.once
        (λ i d below. new _ (Contains-get_or keys i d below));
    order = λ node start. by node start _ refl;
  }
    where
      by : (node start : ℕ) (own : Bool) → is_of node start k ≡ own
          → (n : ℕ) × (serials_of node start (keys ++ k ∷ []) ≡ range_with_len 1 n)
      by node start true own =
          let (n, row) = h.order node start in
          let (e, f) = of_test node start k own in
          (n + 1, row_more node start n keys k own (next_serial n (rw (e, f) row)) row)
      by node start false other = let (n, row) = h.order node start in (n, rw (other_more node start keys k other) row)

-- ---- the keys of values, one after another

module _ (laws : OrderLaws) where
  -- each key is among the firsts
  in_firsts : (keys : List Key) (k : Key) → Contains keys k → Contains (firsts keys) k
  in_firsts [] k h = h
  in_firsts (x ∷ keys) k h =
      let later = in_firsts keys k in grind (arith, nat_tests, in_cases, first_in, rest_in, in_filter, laws.same x k, later)

  module _ {w : WorldState} (sound : IsGroupSound w) (ordered : IsOrdered w) where
    abbrev typed : List Key
    typed = w.typed

    abbrev AreTyped : List Key → Type 0
    AreTyped keys = (k : Key) → Contains keys k → Contains typed k

    abbrev IsFront : List Value → Type 0
    IsFront values = AreChosen w.size w.sent values

    -- a chosen value has typed keys, and is due
    chosen_is : (s : ℕ) (v : Value) → IsChosen w.size w.sent s v
        → AreTyped (keys_of v) × IsDue w.size w.sent v
    chosen_is s v chosen =
        let free = laws.choice.free w.size s _ _ v sound.grew chosen in
        (typed_of laws.choice w sound v free, grind (arith, nat_tests, ordered.due v))

    -- all keys of chosen values were typed
    front_typed : (values : List Value) → IsFront values → AreTyped (all_keys values)
    front_typed values front k h =
        let (v, among, here) = of_flat_map keys_of values k h in
        let (s, at) = place_of values v among in
        (chosen_is s v (front.chosen s v at)).0 k here

    -- the keys of chosen values were typed
    pub chosen_typed : (values : List Value) → IsFront values → AreTyped (keys_in_order values)
    chosen_typed values front k among = front_typed values front k (of_firsts (all_keys values) k among)

    -- one value is chosen at a place, so that of one front is in each other front that has the place
    also_in : (one other : List Value) (s : ℕ) (v : Value) → IsFront one → IsFront other → slice_get one s ≡ Some v → s < length other
        → Contains other v
    also_in one other s v front far at less =
        let there = slice_get-get_or other s v less in
        let same = laws.choice.one w.size s _ _ _ v sound.grew (far.chosen s _ there) (front.chosen s v at) in
        in_from_place other s v (rw same at there)

    -- of two fronts the keys of the shorter one are among those of the longer one
    shorter_in : (below values : List Value) → IsFront below → IsFront values → length below ≤ length values
        → (k : Key) → Contains (all_keys below) k → Contains (all_keys values) k
    shorter_in below values low front less k h =
        let (v, among, here) = of_flat_map keys_of below k h in
        let (s, at) = place_of below v among in
        in_flat_map keys_of values v k (also_in below values s v low front at (omega (arith, slice_get_within below s v at))) here

    -- the first of chosen values are chosen
    front_left : (values more : List Value) → IsFront (values ++ more) → IsFront values
    front_left values more front = record { chosen = λ s v e. front.chosen s v (left_place values more s v e) }

    -- ---- a batch that goes on

    -- one key more, among the firsts or not
    push_orderly : (keys : List Key) (k : Key) (there : Bool) → has_key (firsts keys) k ≡ there → AreOrderly (firsts keys)
        → Follows keys k.node k.start k.serial → AreTyped keys → Contains typed k
        → AreOrderly (if there then firsts keys else firsts keys ++ k ∷ [])
    push_orderly keys k true e h follows was is_typed = h
    push_orderly keys k false e h follows was is_typed = next_orderly (firsts keys) k h (among follows) new where
      among : Follows keys k.node k.start k.serial → Follows (firsts keys) k.node k.start k.serial
      among (begins one) = begins one
      among (goes_on before next has) = goes_on before next (has_in (in_firsts keys) has)

      new : (x : Key) → Contains (firsts keys) x → HaveOneName x k → ⊥
      new x here name =
          let same = apart_same typed x k ordered.once (was x (of_firsts keys x here)) is_typed name in
          both_ways _ e ((laws.has (firsts keys) k).1 (subst (Contains (firsts keys)) same here))

    -- the keys of a batch, one after another
    batch_orderly : (keys : List Key) (node start serial : ℕ) (bytes : List ℕ) → AreOrderly (firsts keys)
        → Follows keys node start serial → AreTyped (keys ++ keys_from node start serial bytes)
        → AreOrderly (firsts (keys ++ keys_from node start serial bytes))
    batch_orderly keys node start serial [] h follows was = rw (append-nil keys) h
    batch_orderly keys node start serial (byte ∷ bytes) h follows was =
        let k : Key = record { node = node; start = start; serial = serial; byte = byte } in
        let more = keys_from node start (serial + 1) bytes in
        let next = push_orderly keys k _ refl h follows (λ x here. was x (Contains-append_left keys _ x here))
        (was k (Contains-append_right keys _ k (first_in k more))) in
        subst (λ l. AreOrderly (firsts l)) (append_assoc keys (k ∷ []) more)
        (batch_orderly (keys ++ k ∷ []) node start (serial + 1) bytes (rw (laws.more keys k) next)
        (goes_on serial refl (own_serial k (Contains-push keys k)))
        (subst AreTyped (sym (append_assoc keys (k ∷ []) more)) was))

    -- ---- the chosen values

    -- a due batch follows the keys before it
    due_follows : (values more : List Value) (node start first byte : ℕ) (bytes : List ℕ)
        → IsFront (values ++ Keys node start first (byte ∷ bytes) ∷ more)
        → IsDue w.size w.sent (Keys node start first (byte ∷ bytes)) → Follows (all_keys values) node start first
    due_follows values more node start first byte bytes front (inl one) = begins one
    due_follows values more node start first byte bytes front (inr p) =
        let v = Keys node start first _ in
        elim (cases_lt (length values) (length p.below)) [
          | inl less ↦
              let there = also_in (values ++ v ∷ more) p.below _ v front p.chosen (here_place values v more) less in
              absurd (p.lacks there)
          | inr within ↦ goes_on p.before p.next (has_in
              (λ x here. shorter_in p.below values p.chosen (front_left values (v ∷ more) front) within x (of_firsts _ x here)) p.has)
        ]

    -- one value more keeps the order
    value_orderly : (values more : List Value) (v : Value) → AreOrderly (firsts (all_keys values)) → IsFront (values ++ v ∷ more)
        → IsDue w.size w.sent v → AreTyped (all_keys values ++ keys_of v)
        → AreOrderly (firsts (all_keys values ++ keys_of v))
    value_orderly values more (Keys node start first (byte ∷ bytes)) h front due was =
        batch_orderly _ node start first (byte ∷ bytes) h (due_follows values more node start first byte bytes front due) was
    value_orderly values more other h front due was = rw (append-nil _) h

    -- and so do more values
    values_orderly : (values more : List Value) → AreOrderly (keys_in_order values) → IsFront (values ++ more)
        → AreOrderly (keys_in_order (values ++ more))
    values_orderly values [] h front = rw (append-nil values) h
    values_orderly values (v ∷ more) h front =
        let join = append_assoc values (v ∷ []) more in
        let whole = subst IsFront (sym join) front in
        let e : all_keys (values ++ v ∷ []) ≡ all_keys values ++ keys_of v =
        flat_map-append keys_of values (v ∷ []) ∙ ap (λ rest. all_keys values ++ rest) (append-nil _) in
        let due = (chosen_is _ v (front.chosen _ v (here_place values v more))).1 in
        let was = subst AreTyped e (front_typed (values ++ v ∷ []) (front_left (values ++ v ∷ []) more whole)) in
        let next = value_orderly values more v h front due was in
        subst (λ l. AreOrderly (keys_in_order l)) join (values_orderly (values ++ v ∷ []) more (rw e next) whole)

    -- order and once
    pub front_orderly : (values : List Value) → IsFront values → AreOrderly (keys_in_order values)
    front_orderly values front =
        values_orderly [] values (record { once = λ i j d less below. absurd (omega arith); order = λ node start. (0, refl) }) front
