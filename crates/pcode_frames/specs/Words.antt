-- The live words of memory: word k + 1 is the element at k, and word 0 is never live.
use Rattle.std.specs.Prelude.{ℕ, zero, suc, ◌/◌, ◌%◌, ◌*◌, ◌+◌, ◌==◌, if◌then◌else◌, List, Option, None, slice_get, slice_set, ℤ, pos, negsuc}
use Rattle.std.specs.Option.{option_map, option_map_or}

-- The word at a word address, if it is live.
-- Forbids: word 0.
-- Source: Manual, p-machine memory.
abbrev pub live_word_at : List ℕ → ℕ → Option ℕ
live_word_at live zero = None
live_word_at live (suc k) = slice_get live k

-- The live words with `value` at a word address; the same words if that one is not live.
-- Source: Manual, p-machine memory.
abbrev pub with_word : List ℕ → ℕ → ℕ → List ℕ
with_word live zero value = live
with_word live (suc k) value = slice_set live k value

-- The byte of `word` at a byte address: the low byte if the address is even.
abbrev pub half_of : ℕ → ℕ → ℕ
half_of address word = if address % 2 == 0 then word % 256 else word / 256

-- The byte at a byte address that is not negative, if its word is live.
abbrev pub byte_from : List ℕ → ℕ → Option ℕ
byte_from live address = option_map (half_of address) (live_word_at live (address / 2))

-- The byte at a byte address, if its word is live.
-- Forbids: a negative address. No address is taken modulo 65,536.
-- Source: Manual, p-machine memory.
abbrev pub live_byte_at : List ℕ → ℤ → Option ℕ
live_byte_at live (pos address) = byte_from live address
live_byte_at live (negsuc below) = None

-- A word with its byte at a byte address replaced.
abbrev pub with_half : ℕ → ℕ → ℕ → ℕ
with_half address word byte =
    if address % 2 == 0 then word / 256 * 256 + byte else byte * 256 + word % 256

-- The live words with `byte` at a byte address that is not negative; the same words if its word is
-- not live.
abbrev pub with_byte_from : List ℕ → ℕ → ℕ → List ℕ
with_byte_from live address byte =
    option_map_or (λ word. with_word live (address / 2) (with_half address word byte))
    (live_word_at live (address / 2)) live

-- The live words with `byte` at a byte address; the same words if its word is not live.
-- Source: Manual, p-machine memory.
abbrev pub with_byte : List ℕ → ℤ → ℕ → List ℕ
with_byte live (pos address) byte = with_byte_from live address byte
with_byte live (negsuc below) byte = live
