-- The input: the bytes of the keys of the learned values below the front, each key once.
use Rattle.std.specs.Prelude.{◌≡◌, ℕ, ◌==◌, ◌&&◌, not, Bool, Contains, List, [], ◌∷◌, Some, map, filter, filter_map, flat_map}
use Rattle.std.specs.List.{list_any, range_with_len}
use Rattle.std.specs.Ordering.{nat_cmp}
use Rattle.std.specs.FinMap.{FinMap, get, values}
use Rattle.paxos_msg.specs.declared.value.Value.{Value}
use Rattle.paxos_msg.specs.Keys.{Key, keys_of}
use Rattle.paxos_learner.specs.Learner.{front_of}

-- True if all four fields are the same.
abbrev pub same_key : Key → Key → Bool
same_key k other =
    (k.node == other.node)
    && ((k.start == other.start) && ((k.serial == other.serial) && (k.byte == other.byte)))

-- True if the key is one of these.
-- Forbids: Another key of the same serial.
abbrev pub has_key : List Key → Key → Bool
has_key keys k = list_any (same_key k) keys

-- The keys without repeats: of equal keys the first.
abbrev pub firsts : List Key → List Key
firsts [] = []
firsts (k ∷ ks) = k ∷ filter (λ other. not (same_key k other)) (firsts ks)

-- The keys of the values in order, each once.
-- Allows: A key that was chosen at two places; batches that overlap.
-- Forbids: A key that is read twice; a new key that is ignored.
abbrev pub keys_in_order : List Value → List Key
keys_in_order values = firsts (flat_map keys_of values)

-- The bytes of the keys of the values, each key once.
abbrev pub input_of : List Value → List ℕ
input_of values = map (λ k. k.byte) (keys_in_order values)

-- The values at the places below `n`, in order of place.
-- Source: Simple 3.
abbrev pub values_below : FinMap nat_cmp Value → ℕ → List Value
values_below learned n = filter_map (get learned) (range_with_len 0 n)

-- The key is in the value that is learned at some place.
-- Allows: A place above the front; any key of a batch.
-- Forbids: Another key of the same serial.
pub record StandsIn (learned : FinMap nat_cmp Value) (k : Key) : Type 0 where
  pub place : ℕ
  pub value : Value
  pub is_learned : get learned place ≡ Some value
  pub has : Contains (keys_of value) k

-- True if the key is in a learned value, at any place.
-- Allows: A key above a hole.
-- Forbids: Another key of the same serial.
abbrev pub is_learned : FinMap nat_cmp Value → Key → Bool
is_learned learned k = list_any (λ v. has_key (keys_of v) k) (values learned)

-- The learned values at the places below the front.
-- Source: Simple 3.
-- Allows: Places learned above a hole, which do not count yet.
-- Forbids: A value from above a hole.
abbrev pub front_values : FinMap nat_cmp Value → List Value
front_values learned = values_below learned (front_of learned)

-- The learned input: the bytes of the keys below the front, each key once.
-- Source: Simple 3.
abbrev pub learned_input : FinMap nat_cmp Value → List ℕ
learned_input learned = input_of (front_values learned)
