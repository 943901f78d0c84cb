-- Values as version 1 spelled them: a value was a single key or a no-op.
use Rattle.std.specs.Prelude.{ℕ, ◌≤◌, ◌==◌, not, List, [], ◌∷◌, ◌++◌, length, Result, Ok, Err, if◌then◌else◌}
use Rattle.base.specs.Steps.{◌>>=◌}
use Rattle.paxos_msg.specs.declared.value.Value.{Value}
use Rattle.paxos_msg.specs.declared.value.Value.TheVariants.{Noop, Keys}
use Rattle.paxos_msg.specs.declared.fault.WireFault.{WireFault}
use Rattle.paxos_msg.specs.declared.fault.WireFault.TheVariants as fault
use Rattle.paxos_msg.specs.Keys.{keys_of}
use Rattle.paxos_msg.specs.Reading.{first_byte, is_node, number_at, refuse}
use Rattle.paxos_msg.specs.Spelling.{number_bytes}

-- A value with at most one key, as all were in version 1.
-- Allows: A no-op.
-- Forbids: A batch of two keys.
abbrev pub IsSingle : Value → Type 0
IsSingle v = length (keys_of v) ≤ 1

-- The spelling of such a value in version 1, which has no number of keys.
abbrev pub value_bytes_v1 : Value → List ℕ
value_bytes_v1 Noop = 0 ∷ []
value_bytes_v1 (Keys node start first bytes) =
    1 ∷ node ∷ (number_bytes start ++ number_bytes first ++ bytes)

-- The fields of a key after its node: its start, its serial and its character.
unfoldable pub key_rest_at_v1 : ℕ → List ℕ → Result (Value × List ℕ) WireFault
key_rest_at_v1 node bytes = do
  start ← number_at bytes
  _ ← refuse fault.Value (start.0 == 0)
  serial ← number_at start.1
  _ ← refuse fault.Value (serial.0 == 0)
  byte ← first_byte serial.1
  Ok (Keys node start.0 serial.0 (byte.0 ∷ []), byte.1)

-- The fields of a key after its tag.
unfoldable pub key_at_v1 : ℕ → List ℕ → Result (Value × List ℕ) WireFault
key_at_v1 size bytes = do
  node ← first_byte bytes
  _ ← refuse fault.Value (not (is_node size node.0))
  key_rest_at_v1 node.0 node.1

-- The value of version 1 after its tag.
abbrev pub tagged_v1 : ℕ → ℕ → List ℕ → Result (Value × List ℕ) WireFault
tagged_v1 size tag bytes =
    if tag == 0 then Ok (Noop, bytes)
    else (if tag == 1 then key_at_v1 size bytes else Err fault.Value)

-- A value of version 1 at the front of bytes, a key as a batch of one, and the bytes after it.
unfoldable pub value_at_v1 : ℕ → List ℕ → Result (Value × List ℕ) WireFault
value_at_v1 size bytes = first_byte bytes >>= λ tag. tagged_v1 size tag.0 tag.1
