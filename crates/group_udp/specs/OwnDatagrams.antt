-- Datagrams that are kept one after the other in one list of bytes.
use Rattle.std.specs.Prelude.{◌≡◌, ℕ, List, [], ◌∷◌, drop, length, sum, take}
use Rattle.circular_buffer.specs.Buffer.{Buffer}
use Rattle.group_udp.specs.declared.limits.TheConstants.{MOST_OWN, OWN_BYTES}

-- The datagrams of these lengths that the bytes are, one after the other.
abbrev pub cut : List ℕ → List ℕ → List (List ℕ)
cut bytes [] = []
cut bytes (n ∷ ns) = take n bytes ∷ cut (drop n bytes) ns

-- Bytes and lengths of kept datagrams: the lengths are those of all bytes, and both rings have
-- their room.
pub record IsBuffered (bytes lengths : Buffer ℕ) : Type 0 where
  pub whole : sum lengths.items ≡ length bytes.items
  pub bytes_room : bytes.capacity ≡ OWN_BYTES
  pub lengths_room : lengths.capacity ≡ MOST_OWN
