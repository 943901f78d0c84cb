-- The fields of a learner beside its learned values.
use Rattle.std.specs.Prelude.{◌≡◌, ℕ, ◌+◌, ◌*◌, ◌<◌, ◌≤◌, IsTrue, List, length, take, slice_index, Contains, Some, None, is_some}
use Rattle.std.specs.Ordering.{nat_cmp}
use Rattle.std.specs.FinMap.{FinMap, get}
use Rattle.paxos_msg.specs.declared.value.Value.{Value}
use Rattle.paxos_msg.specs.Keys.{Key, keys_of}
use Rattle.paxos_learner.specs.Entered.{Entered}
use Rattle.paxos_learner.specs.Learner.{AreInWindow}
use Rattle.paxos_learner.specs.Input.{StandsIn, keys_in_order, values_below}
use Rattle.paxos_msg.specs.declared.limits.TheConstants.{MOST_CHARACTERS, MOST_NODES, PLACES}

-- The input has the keys of the places so far, which are all learned. There is room for each
-- learned place, and for 32 keys at each place up to it.
pub record IsInputOf (learned : FinMap nat_cmp Value) (e : Entered) : Type 0 where
  pub below : (s : ℕ) → s < length e.ends → IsTrue (is_some (get learned s))
  pub keys : e.keys ≡ keys_in_order (values_below learned (length e.ends))
  pub within : (s : ℕ) → s < length e.ends → slice_index e.ends s ≤ length e.keys
  pub ends : (s : ℕ) → s < length e.ends
      → take (slice_index e.ends s) e.keys ≡ keys_in_order (values_below learned (s + 1))
  pub room : (s : ℕ) → IsTrue (is_some (get learned s)) → s < length e.ends + e.room
  pub key_room : (s : ℕ) → IsTrue (is_some (get learned s))
      → MOST_CHARACTERS * (s + 1) ≤ e.key_room + MOST_CHARACTERS * length e.ends
  pub small : (s : ℕ) → IsTrue (is_some (get learned s)) → s < PLACES

-- These are keys of learned values, and all those from the front on: the input does not have them.
-- Each learned place is below `top`.
-- Allows: also keys of places below the front.
pub record AreKeptAbove (learned : FinMap nat_cmp Value) (front top : ℕ) (keys : List Key)
    : Type 0 where
  pub stand : (k : Key) → Contains keys k → StandsIn learned k
  pub all : (s : ℕ) (v : Value) → get learned s ≡ Some v → front ≤ s → (k : Key)
      → Contains (keys_of v) k → Contains keys k
  pub below : (s : ℕ) → IsTrue (is_some (get learned s)) → s < top

-- The invariant of a learner. The input goes up to the front, which is not learned, and the keys of
-- the learned values above it are kept beside it.
pub record IsKept (size : ℕ) (learned : FinMap nat_cmp Value) (e : Entered) (top : ℕ)
    (above : List Key) : Type 0 where
  pub size_small : size ≤ MOST_NODES
  pub input : IsInputOf learned e
  pub here : get learned (length e.ends) ≡ None
  pub window : AreInWindow learned
  pub keys : AreKeptAbove learned (length e.ends) top above
