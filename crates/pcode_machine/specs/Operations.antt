-- Instructions that compute words: arithmetic, logic, comparisons, pointers that move, and CHK.
use Rattle.std.specs.Prelude.{ℕ, List, [], ◌∷◌, Result, Ok, Err}
use Rattle.pcode_machine.specs.declared.operations.UnaryOperation.{UnaryOperation}
use Rattle.pcode_machine.specs.declared.operations.UnaryOperation.TheVariants.{Absolute, Negation, Square, Complement, Past}
use Rattle.pcode_machine.specs.declared.comparisons.Comparison.TheVariants as comparison
use Rattle.pcode_ops.specs.declared.operation.Operation.{Operation}
use Rattle.pcode_ops.specs.declared.operation.Operation.TheVariants.{Sum, Difference, Product, Quotient, Remainder, Both, Either, Equal, NotEqual, LessOrEqual, Less, GreaterOrEqual, Greater, EqualBits, NotEqualBits, LessOrEqualBits, LessBits, GreaterOrEqualBits, GreaterBits, Element}
use Rattle.pcode_machine.specs.declared.turn.Stop.{Stop}
use Rattle.pcode_machine.specs.declared.turn.Stop.TheVariants.{Error}
use Rattle.pcode_machine.specs.Configuration.{State}
use Rattle.pcode_machine.specs.Arithmetic.{sum_of, difference_of, product_of, quotient_of, remainder_of, absolute_of, negation_of, square_of, both_of, either_of, complement_of, checked_of, element_of}
use Rattle.pcode_machine.specs.Comparisons.{compared, compared_bits}
use Rattle.pcode_machine.specs.Pointers.{pointer_past}
use Rattle.pcode_machine.specs.declared.errors.ExecutionError.{ExecutionError}
use Rattle.pcode_machine.specs.declared.errors.ExecutionError.TheVariants.{StackUnderflow}

-- The result of an operation on one word.
-- Source: Manual, p-machine arithmetic.
abbrev pub unary_value_of : UnaryOperation → ℕ → ℕ
unary_value_of Absolute a = absolute_of a
unary_value_of Negation a = negation_of a
unary_value_of Square a = square_of a
unary_value_of Complement a = complement_of a
unary_value_of (Past words) a = pointer_past a words

-- The result of an operation on two words, or its error.
-- Source: Manual, p-machine arithmetic.
abbrev pub value_of : Operation → ℕ → ℕ → Result ℕ ExecutionError
value_of Sum a b = Ok (sum_of a b)
value_of Difference a b = Ok (difference_of a b)
value_of Product a b = Ok (product_of a b)
value_of Quotient a b = quotient_of a b
value_of Remainder a b = remainder_of a b
value_of Both a b = Ok (both_of a b)
value_of Either a b = Ok (either_of a b)
value_of Equal a b = Ok (compared comparison.Equal a b)
value_of NotEqual a b = Ok (compared comparison.NotEqual a b)
value_of LessOrEqual a b = Ok (compared comparison.LessOrEqual a b)
value_of Less a b = Ok (compared comparison.Less a b)
value_of GreaterOrEqual a b = Ok (compared comparison.GreaterOrEqual a b)
value_of Greater a b = Ok (compared comparison.Greater a b)
value_of EqualBits a b = Ok (compared_bits comparison.Equal a b)
value_of NotEqualBits a b = Ok (compared_bits comparison.NotEqual a b)
value_of LessOrEqualBits a b = Ok (compared_bits comparison.LessOrEqual a b)
value_of LessBits a b = Ok (compared_bits comparison.Less a b)
value_of GreaterOrEqualBits a b = Ok (compared_bits comparison.GreaterOrEqual a b)
value_of GreaterBits a b = Ok (compared_bits comparison.Greater a b)
value_of (Element words) a b = Ok (element_of a b words)

-- The state after the word on top of this stack was replaced, or error 0.
abbrev pub replaced : UnaryOperation → ℕ → State → List ℕ → Result State Stop
replaced operation j s [] = Err (Error StackUnderflow)
replaced operation j s (a ∷ rest) =
    Ok (record s { stack = unary_value_of operation a ∷ rest; next = j })

-- The state with a word above these, or the error.
abbrev pub put_above : Result ℕ ExecutionError → ℕ → State → List ℕ → Result State Stop
put_above (Ok word) j s rest = Ok (record s { stack = word ∷ rest; next = j })
put_above (Err error) j s rest = Err (Error error)

-- The state after the two words on top of this stack were combined, or the error.
-- The first operand is below the second.
abbrev pub combined : Operation → ℕ → State → List ℕ → Result State Stop
combined operation j s (b ∷ a ∷ rest) = put_above (value_of operation a b) j s rest
combined operation j s _ = Err (Error StackUnderflow)

-- The state after CHK, or its error.
-- Of the three words on top of this stack the lowest stays, if it lies from the next one to the
-- top.
-- Source: Manual, CHK.
abbrev pub checked : ℕ → State → List ℕ → Result State Stop
checked j s (high ∷ low ∷ v ∷ rest) = put_above (checked_of v low high) j s rest
checked j s _ = Err (Error StackUnderflow)
