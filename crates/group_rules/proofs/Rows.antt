-- The keys of one start of a node among other keys: their serials, and the typed ones as a row.
-- What follows for the keys that wait, and how the row goes on.
use Rattle.std.proofs.Common.{◌≡◌, ◌∙◌, ℕ, true, false, List, [], ◌∷◌, ◌++◌, map, get_or, inl, inr, refl, sym, ap, subst, ◌≢◌, ◌+◌, ◌-◌, length, append_assoc, arith, ◌<◌, length-append}
use Rattle.std.proofs.lemmas.Bool.{cases_eq}
use Rattle.std.proofs.lemmas.Bool.Decides.{nat_tests}
use Rattle.std.proofs.lemmas.List.{append-nil, get_or_default, map-append, length-map, get_or-map, get_or_at, get_or_append_left}
use Rattle.std.proofs.lemmas.List.Elements.{filter-append, Contains-append_left, Contains-append_right, All-append, All-contains, All-nil, All-weaker, Contains-get_or}
use Rattle.std.specs.List.{Contains, All, range_with_len}
use Rattle.paxos_msg.specs.Keys.{Key, keys_of}
use Rattle.paxos_msg.specs.declared.value.Value.TheVariants.{Keys, Noop}
use Rattle.pcode_machine.specs.Runs.{IsPrefix}
use Rattle.group_rules.specs.Claims.{AreApart, HaveOneName, is_of, serials_of}
use Rattle.group_rules.specs.Invariants.{HasSerial, those_of, IsDue, AreTypedKeys}
use Rattle.group_protocol.proofs.Elements.{of_map}
use Rattle.group_rules.proofs.Lists.{in_map, in_filter, of_filter, filter_none, of_range, range_more}
use Rattle.paxos_msg.specs.declared.value.Value.{Value}
use Rattle.paxos_msg.specs.Batches.{Sent}
use Rattle.paxos_learner.specs.Input.{keys_in_order}
use Rattle.group_node.specs.Inputs.{AreChosen}
use Rattle.std.proofs.lemmas.List.FromFn.{length-range_with_len, get_or-range_with_len}
use Rattle.group_protocol.proofs.Elements.{first_in}

-- ---- keys of a start of a node

-- a key of the start, by the test
pub of_test : (node start : ℕ) (k : Key) → is_of node start k ≡ true → (k.node ≡ node) × (k.start ≡ start)
of_test node start k h = grind (arith, nat_tests)

-- ---- serials as elements

-- the serial of one of the keys
pub own_serial : {keys : List Key} (k : Key) → Contains keys k → HasSerial keys k.node k.start k.serial
own_serial k among = record { key = k; among = among; node_is = refl; start_is = refl; serial_is = refl }

pub serial_in : (keys : List Key) (node start serial : ℕ) → HasSerial keys node start serial → Contains (serials_of node start keys) serial
serial_in keys node start serial h =
    rw h.serial_is at (in_map (λ (k : Key). k.serial) _ h.key
    (in_filter (is_of node start) keys h.key h.among (grind (arith, nat_tests, h.node_is, h.start_is))))

pub serial_of : (keys : List Key) (node start serial : ℕ) → Contains (serials_of node start keys) serial → HasSerial keys node start serial
serial_of keys node start serial h =
    let (key, kept, is) = of_map (λ (k : Key). k.serial) _ serial h in
    let (among, own) = of_filter _ keys key kept in
    let (e, f) = of_test node start key own in
    record { key = key; among = among; node_is = e; start_is = f; serial_is = is }

-- ---- among more keys

-- a serial among keys is among more keys
pub has_in : {keys more : List Key} {node start serial : ℕ} → ((k : Key) → Contains keys k → Contains more k)
    → HasSerial keys node start serial → HasSerial more node start serial
has_in within h =
    record { key = h.key; among = within h.key h.among; node_is = h.node_is; start_is = h.start_is; serial_is = h.serial_is }

-- ---- one key more

-- another key changes nothing
pub other_more : (node start : ℕ) (keys : List Key) (k : Key) → is_of node start k ≡ false
    → those_of node start (keys ++ k ∷ []) ≡ those_of node start keys
other_more node start keys k e = rw (filter-append, e) (append-nil _)

-- after serials in a row the key with the next serial goes on with the row
pub row_more : (node start last : ℕ) (keys : List Key) (k : Key) → is_of node start k ≡ true → 1 + last ≡ k.serial
    → serials_of node start keys ≡ range_with_len 1 last
    → serials_of node start (keys ++ k ∷ []) ≡ range_with_len 1 (last + 1)
row_more node start last keys k own next row =
    rw (filter-append, own, map-append, row) (sym (range_more 1 last k.serial next))

-- ---- keys that are apart

-- of keys that are apart, two with one name are the same
pub apart_same : (keys : List Key) (k other : Key) → AreApart keys → Contains keys k → Contains keys other → HaveOneName k other → k ≡ other
apart_same keys k other apart (i, below, at) (j, within, is) name =
    grind (arith, get_or_default keys j k other within)

-- ---- the row of typed keys

-- The keys that still wait once more keys are read: those before them are read.
pub record IsParted (read keys stay : List Key) : Type 0 where
  pub gone : List Key
  pub parts : keys ≡ gone ++ stay
  pub below : All (λ k. Contains read k) gone

-- the row of a start in which no key was typed
pub fresh_row : (typed : List Key) (i start : ℕ) (read : List Key)
    → ((k : Key) → Contains typed k → k.node ≡ i → k.start ≡ start → ⊥) → AreTypedKeys typed i start 0 [] read
fresh_row typed i start read none =
    let none_yet = filter_none _ typed (λ k among. grind (arith, nat_tests, none k among)) in
    record { serials = ap (map (λ (k : Key). k.serial)) none_yet; gone = []; newest = none_yet; below = All-nil _ }

module _ {typed : List Key} {i start last : ℕ} {waiting read : List Key} (h : AreTypedKeys typed i start last waiting read) where
  -- the key at place `k` has the serial after `k`
  serial_at : (k : ℕ) (x : Key) → k < length (h.gone ++ waiting) → get_or (h.gone ++ waiting) k x ≡ x → x.serial ≡ 1 + k
  serial_at k x low at =
      let keys = h.gone ++ waiting in
      let row = ap (map (λ (y : Key). y.serial)) (sym h.newest) ∙ h.serials in
      let within : k < last = omega (arith, ap length row, length-map keys (λ (y : Key). y.serial), length-range_with_len 1 last) in
      ap (λ (y : Key). y.serial) (sym at) ∙ sym (get_or-map (λ (y : Key). y.serial) keys k x 0 low)
      ∙ ap (λ l. get_or l k 0) row ∙ get_or-range_with_len 1 last k 0 within

  -- it is a typed key of this start
  own_key : (k : Key) → Contains (h.gone ++ waiting) k → Contains typed k × (k.node ≡ i) × (k.start ≡ start)
  own_key k among =
      let (here, own) = of_filter _ typed k (subst (λ l. Contains l k) (sym h.newest) among) in
      let (e, f) = of_test i start k own in (here, e, f)

  -- the first that waits has the serial after those that do not
  first_serial : (key : Key) (keys : List Key) → waiting ≡ key ∷ keys → key.serial ≡ 1 + length h.gone
  first_serial key keys e =
      serial_at (length h.gone) key (omega (arith, length-append h.gone waiting, ap length e))
      (ap (λ l. get_or (h.gone ++ l) (length h.gone) key) e ∙ get_or_at h.gone key keys key _ refl)

  -- if some key no longer waits, the last of those is read
  last_gone : length h.gone ≢ 0 → HasSerial read i start (length h.gone)
  last_gone some =
      let n = length h.gone - 1 in
      let low : n < length h.gone = omega arith in
      let key : Key = get_or h.gone n (record { node = i; start = start; serial = 0; byte = 0 }) in
      let among : Contains h.gone key = Contains-get_or h.gone n _ low in
      let is = own_key key (Contains-append_left h.gone waiting key among) in
      let at = get_or_append_left h.gone waiting key n low ∙ get_or_default h.gone n key _ low in
      let serial : key.serial ≡ length h.gone = serial_at n key (omega (arith, length-append h.gone waiting)) at ∙ omega arith in
      rw (is.1, is.2, serial) at (own_serial key (All-contains (λ k. Contains read k) h.gone key h.below among))

  -- ---- a key is typed

  -- no typed key has the name of the next one
  pub new_name : (key : Key) → key.node ≡ i → key.start ≡ start → key.serial ≡ last + 1 → (k : Key) → Contains typed k → ¬ HaveOneName k key
  new_name key of_node of_start next k among name =
      let has = rw (name.node ∙ of_node, name.start ∙ of_start) at (own_serial k among) in
      let inside = of_range 1 last k.serial (rw h.serials at (serial_in typed i start k.serial has)) in
      omega (arith, inside.1, name.serial)

  -- the row with one key more
  pub typed_row : (key : Key) → key.node ≡ i → key.start ≡ start → key.serial ≡ last + 1
      → AreTypedKeys (typed ++ key ∷ []) i start (last + 1) (waiting ++ key ∷ []) read
  typed_row key of_node of_start next =
      let own : is_of i start key ≡ true = grind (arith, nat_tests) in
      record {
        serials = row_more i start last typed key own (omega arith) h.serials;
        gone = h.gone;
        newest = rw (filter-append, own, h.newest) (append_assoc h.gone waiting _);
        below = h.below;
      }

  -- another node's key
  pub other_row : (key : Key) → (key.node ≡ i → ⊥) → AreTypedKeys (typed ++ key ∷ []) i start last waiting read
  other_row key ne =
      let same = other_more i start typed key (grind (arith, nat_tests, ne)) in
      record {
        serials = rw same h.serials;
        gone = h.gone;
        newest = same ∙ h.newest;
        below = h.below;
      }

  -- ---- keys are read

  -- the row where more keys are read
  pub parted_row : (later stay : List Key) → ((k : Key) → Contains read k → Contains later k)
      → IsParted later waiting stay → AreTypedKeys typed i start last stay later
  parted_row later stay more parts = record {
    serials = h.serials;
    gone = h.gone ++ parts.gone;
    newest = h.newest ∙ ap (λ l. h.gone ++ l) parts.parts ∙ sym (append_assoc h.gone parts.gone stay);
    below = All-append (λ k. Contains later k) h.gone parts.gone (All-weaker _ _ more h.gone h.below) parts.below;
  }

-- ---- a batch of the first keys that wait is due

-- it is not one of the values whose keys are read
pub first_due : {size : ℕ} {sent : Sent} {typed : List Key} {i begun last : ℕ} {waiting : List Key} {known : List Value}
    → AreChosen size sent known → AreTypedKeys typed i begun last waiting (keys_in_order known)
    → (v : Value) → keys_of v ≢ [] → IsPrefix (keys_of v) waiting → ¬ Contains known v → IsDue size sent v
first_due front h Noop some begins new = tt
first_due front h (Keys node start first []) some begins new = absurd (some refl)
first_due {known = known} front h (Keys node start first (byte ∷ bytes)) some begins new =
    let key : Key = record { node = node; start = start; serial = first; byte = byte } in
    let serial = first_serial h key _ begins.whole in
    let own = own_key h key (Contains-append_right h.gone _ key (rw begins.whole (first_in key _))) in
    elim (cases_eq (length h.gone) 0) [
      | inl none ↦ inl (serial ∙ omega arith)
      | inr more ↦ inr (record {
        below = known;
        chosen = front;
        before = length h.gone;
        next = omega (arith, serial);
        has = rw (own.1, own.2) (last_gone h more);
        lacks = new;
      })
    ]
