-- Comparisons of words, signed or of their low bits, whose result is the word 1 or 0.
use Rattle.std.specs.Prelude.{ℕ, ℤ, ◌%◌, Bool, not, if◌then◌else◌, int_lt, int_le}
use Rattle.std.specs.Ordering.{int_eq}
use Rattle.pcode_machine.specs.declared.comparisons.Comparison.{Comparison}
use Rattle.pcode_machine.specs.declared.comparisons.Comparison.TheVariants.{Equal, NotEqual, LessOrEqual, Less, GreaterOrEqual, Greater}
use Rattle.pcode_machine.specs.Arithmetic.{signed}

-- The test that the comparison holds of two numbers.
-- Source: Manual, comparisons.
abbrev pub holds_of : Comparison → ℤ → ℤ → Bool
holds_of Equal x y = int_eq x y
holds_of NotEqual x y = not (int_eq x y)
holds_of LessOrEqual x y = int_le x y
holds_of Less x y = int_lt x y
holds_of GreaterOrEqual x y = int_le y x
holds_of Greater x y = int_lt y x

-- The word 1 if the comparison holds of two signed words, and 0 otherwise.
-- Source: Manual, comparisons.
abbrev pub compared : Comparison → ℕ → ℕ → ℕ
compared comparison a b = if holds_of comparison (signed a) (signed b) then 1 else 0

-- The word 1 if the comparison holds of the low bits of two words, and 0 otherwise.
-- Source: Manual, comparisons.
abbrev pub compared_bits : Comparison → ℕ → ℕ → ℕ
compared_bits comparison a b = compared comparison (a % 2) (b % 2)
