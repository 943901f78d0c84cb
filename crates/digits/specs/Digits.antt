-- Numbers in decimal digits, and bytes in hexadecimal ones.
use Rattle.std.specs.Prelude.{ℕ, ◌^◌, ◌+◌, ◌*◌, ◌/◌, ◌%◌, nat_lt, true, ◌&&◌, if◌then◌else◌}
use Rattle.std.specs.Prelude.{List, [], ◌∷◌, flat_map, length, Option, Some, None}
use Rattle.std.specs.Fmt.{digit_glyph}
use Rattle.std.specs.Str.{all_ascii_digits}
use Rattle.std.specs.Str.Parse.{digits_value}
use Rattle.std.specs.Char.{digit_value}

-- The number of decimal digits alone, if it has at least one digit and `bits` bits hold it.
-- Allows: zeros in front.
-- Forbids: a sign, and any other character.
abbrev pub decimal_of : ℕ → List ℕ → Option ℕ
decimal_of bits ds =
    if nat_lt 0 (length ds) && all_ascii_digits ds && nat_lt (digits_value 10 ds) (2 ^ bits)
    then Some (digits_value 10 ds) else None

-- ---- bytes in hexadecimal digits

-- The byte of exactly two hexadecimal digits of either case, the high one first.
-- Forbids: other bytes, and fewer or more than two.
abbrev pub hex_byte_of : List ℕ → Option ℕ
hex_byte_of (h ∷ l ∷ []) =
    if nat_lt (digit_value h) 16 && nat_lt (digit_value l) 16
    then Some (digit_value h * 16 + digit_value l) else None
hex_byte_of _ = None

-- The bytes with one before them, where both exist.
abbrev pub byte_before : Option ℕ → Option (List ℕ) → Option (List ℕ)
byte_before (Some byte) (Some bytes) = Some (byte ∷ bytes)
byte_before _ _ = None

-- The bytes of pairs of hexadecimal digits, if all are pairs.
-- Allows: digits of either case.
-- Forbids: an odd number of digits, and any other character.
abbrev pub hex_bytes_of : List ℕ → Option (List ℕ)
hex_bytes_of [] = Some []
hex_bytes_of (h ∷ []) = None
hex_bytes_of (h ∷ l ∷ digits) = byte_before (hex_byte_of (h ∷ l ∷ [])) (hex_bytes_of digits)

-- The two hexadecimal digits of a byte, in capitals, the high one first.
-- Forbids: digits in small letters.
abbrev pub hex_digits : ℕ → List ℕ
hex_digits byte = digit_glyph true (byte / 16) ∷ digit_glyph true (byte % 16) ∷ []

-- Bytes in two hexadecimal digits each.
abbrev pub hex_text : List ℕ → List ℕ
hex_text bytes = flat_map hex_digits bytes
