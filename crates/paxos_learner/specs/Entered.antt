-- The input as it is kept: its keys so far, and how many there were after each place.
use Rattle.std.specs.Prelude.{ℕ, zero, suc, ◌*◌, ◌<◌, ◌≤◌, nat_lt, List, length, slice_index, if◌then◌else◌}
use Rattle.indexmap.specs.IndexSet.{insert_all}
use Rattle.paxos_msg.specs.declared.value.Value.{Value}
use Rattle.paxos_msg.specs.Keys.{Key, keys_of}
use Rattle.paxos_learner.specs.declared.keys.TypedKey.{TypedKey}
use Rattle.paxos_learner.specs.Input.{same_key}
use Rattle.paxos_msg.specs.declared.limits.TheConstants.{MOST_CHARACTERS, PLACES}

-- The keys of the places so far, each once, the number of keys after each place, and how many more
-- places and keys have room.
pub record Entered : Type 0 where
  pub keys : List Key
  pub ends : List ℕ
  pub room : ℕ
  pub key_room : ℕ

-- Keys, each once, and how many more have room.
pub record Keys : Type 0 where
  pub keys : List Key
  pub room : ℕ

-- The key of a stored one.
abbrev pub key_of : TypedKey → Key
key_of k = record { node = k.node; start = k.start; serial = k.serial; byte = k.byte }

-- Counts of keys by place. There are at most 32 keys for each place, no place has more before it
-- than there are, and a group has 65,536 places.
pub record IsCounted (keys : List Key) (ends : List ℕ) : Type 0 where
  pub few : length keys ≤ MOST_CHARACTERS * length ends
  pub within : (s : ℕ) → s < length ends → slice_index ends s ≤ length keys
  pub small : length ends ≤ PLACES

-- The keys with those of one more value, each new one at the end.
-- Allows: A batch that overlaps an earlier one.
-- Forbids: A key twice.
abbrev pub keys_with : List Key → Value → List Key
keys_with keys v = insert_all same_key keys (keys_of v)

-- The number of keys of the places below this one.
abbrev pub count_below : Entered → ℕ → ℕ
count_below e zero = 0
count_below e (suc s) = if nat_lt s (length e.ends) then slice_index e.ends s else length e.keys
