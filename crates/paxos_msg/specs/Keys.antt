-- The keys of a value.
use Rattle.std.specs.Prelude.{◌≡◌, ◌≢◌, ℕ, ◌+◌, List, [], ◌∷◌, Contains}
use Rattle.paxos_msg.specs.declared.value.Value.{Value}
use Rattle.paxos_msg.specs.declared.value.Value.TheVariants as value

-- A typed character: its node, the number of that node's start, its serial in that start, and the
-- character.
-- Forbids: That two characters are one key, even under one serial.
pub record Key : Type 0 where
  pub node : ℕ
  pub start : ℕ
  pub serial : ℕ
  pub byte : ℕ

-- The keys with these characters, with serials from `serial` on.
abbrev pub keys_from : ℕ → ℕ → ℕ → List ℕ → List Key
keys_from node start serial [] = []
keys_from node start serial (byte ∷ bytes) =
    record { node = node; start = start; serial = serial; byte = byte }
    ∷ keys_from node start (serial + 1) bytes

-- The keys of a value, in order of serial.
-- Allows: A no-op, which has no key.
abbrev pub keys_of : Value → List Key
keys_of value.Noop = []
keys_of (value.Keys node start first bytes) = keys_from node start first bytes

-- The demands of the rules on a type of values: a no-op, and the keys of each value in order.
-- Allows: Values of an earlier version.
pub record Values (V : Type 0) : Type 0 where
  pub noop : V
  pub keys : V → List Key

-- The values of today: each is a batch of keys or a no-op.
abbrev pub batches : Values Value
batches = record { noop = value.Noop; keys = keys_of }

-- The value has a key, and each of its keys was typed at node `i`.
-- Allows: A batch of 32 keys.
-- Forbids: A no-op, or a key of another node.
pub record AreOwnKeys {V : Type 0} (values : Values V) (i : ℕ) (v : V) : Type 0 where
  pub has_key : values.keys v ≢ []
  pub at_node : (key : Key) → Contains (values.keys v) key → key.node ≡ i
