-- Arithmetic on words of 16 bits, signed and modulo 65,536. Sums, differences and products of
-- signed words are the same words.
use Rattle.std.specs.Prelude.{ℕ, ℤ, pos, ◌+◌, ◌-◌, ◌*◌, ◌%◌, ◌==◌, ◌&&◌, if◌then◌else◌, Result, Ok, Err, unsigned_abs, int_div, int_rem, int_le, bit_and, bit_or}
use Rattle.std.specs.Int.{w16, cast_signed, int_rem_euclid, bit_not}
use Rattle.pcode_machine.specs.declared.errors.ExecutionError.{ExecutionError}
use Rattle.pcode_machine.specs.declared.errors.ExecutionError.TheVariants.{OutOfRange, DivisionByZero}

-- The signed number of a word, from -32,768 to 32,767.
-- Source: Manual, p-machine arithmetic.
abbrev pub signed : ℕ → ℤ
signed word = cast_signed w16 word

-- The word of a number modulo 65,536.
-- Source: Manual, p-machine arithmetic.
abbrev pub word_of : ℤ → ℕ
word_of z = unsigned_abs (int_rem_euclid z (pos 65536))

-- The sum of two words, modulo 65,536.
-- Source: Manual, p-machine arithmetic.
abbrev pub sum_of : ℕ → ℕ → ℕ
sum_of a b = (a + b) % 65536

-- The first word less the second, modulo 65,536.
-- Source: Manual, p-machine arithmetic.
abbrev pub difference_of : ℕ → ℕ → ℕ
difference_of a b = (a + (65536 - b)) % 65536

-- The product of two words, modulo 65,536.
-- Source: Manual, p-machine arithmetic.
abbrev pub product_of : ℕ → ℕ → ℕ
product_of a b = (a * b) % 65536

-- The signed quotient, rounded towards zero, or error 6 if the divisor is 0.
-- Source: Manual, DVI.
abbrev pub quotient_of : ℕ → ℕ → Result ℕ ExecutionError
quotient_of a b =
    if b == 0 then Err DivisionByZero else Ok (word_of (int_div (signed a) (signed b)))

-- The remainder of that division, with the dividend's sign, or error 6 if the divisor is 0.
-- Source: Manual, MODI.
abbrev pub remainder_of : ℕ → ℕ → Result ℕ ExecutionError
remainder_of a b =
    if b == 0 then Err DivisionByZero else Ok (word_of (int_rem (signed a) (signed b)))

-- The absolute value of a signed word.
-- Allows: -32,768, which stays.
abbrev pub absolute_of : ℕ → ℕ
absolute_of a = unsigned_abs (signed a)

-- The word of the other sign, modulo 65,536.
-- Allows: -32,768, which stays.
-- Source: Manual, p-machine arithmetic.
abbrev pub negation_of : ℕ → ℕ
negation_of a = (65536 - a) % 65536

-- The product of a word with itself, modulo 65,536.
-- Source: Manual, p-machine arithmetic.
abbrev pub square_of : ℕ → ℕ
square_of a = product_of a a

-- The bits that are set in both words.
abbrev pub both_of : ℕ → ℕ → ℕ
both_of a b = bit_and a b

-- The bits that are set in either word.
abbrev pub either_of : ℕ → ℕ → ℕ
either_of a b = bit_or a b

-- The bits that are not set in a word.
abbrev pub complement_of : ℕ → ℕ
complement_of a = bit_not w16 a

-- The word itself, if as a signed one it is at least `low` and at most `high`, or error 1.
-- Source: Manual, CHK.
abbrev pub checked_of : ℕ → ℕ → ℕ → Result ℕ ExecutionError
checked_of value low high =
    if int_le (signed low) (signed value) && int_le (signed value) (signed high) then Ok value
    else Err OutOfRange

-- The address of an element of `words` words at an index after a pointer, modulo 65,536.
-- Source: Manual, IXA.
abbrev pub element_of : ℕ → ℕ → ℕ → ℕ
element_of pointer index words = (pointer + 2 * index * words) % 65536
