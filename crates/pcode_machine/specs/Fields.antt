-- Packed fields: some bits of a word, named by a pointer to the word, a width in bits, and the
-- place of the lowest bit. Their rules are this project's choice.
use Rattle.std.specs.Prelude.{ℕ, ◌+◌, ◌*◌, ◌/◌, ◌%◌, ◌^◌, nat_lt, nat_le, ◌&&◌, if◌then◌else◌, Bool, List, ◌∷◌, length, Result, Ok, Err}
use Rattle.std.specs.Option.{ok_or}
use Rattle.base.specs.Steps.{◌>>=◌}
use Rattle.pcode_frames.specs.declared.limits.TheConstants.{STACK_WORDS}
use Rattle.pcode_frames.specs.Words.{with_word}
use Rattle.pcode_machine.specs.declared.turn.Stop.{Stop}
use Rattle.pcode_machine.specs.declared.turn.Stop.TheVariants.{Error}
use Rattle.pcode_machine.specs.declared.errors.ExecutionError.{ExecutionError}
use Rattle.pcode_machine.specs.declared.errors.ExecutionError.TheVariants.{StackUnderflow, OutOfRange, NoRoom, BadAddress}
use Rattle.pcode_machine.specs.Configuration.{State}
use Rattle.pcode_machine.specs.Operations.{put_above}
use Rattle.pcode_machine.specs.Pointers.{pointer_past, pointed}

-- The test that a field has at least one bit and lies in one word.
abbrev pub is_field : ℕ → ℕ → Bool
is_field width right = nat_le 1 width && nat_le (right + width) 16

-- The bits from `right` up to `right + width - 1` of a word.
abbrev pub field_of : ℕ → ℕ → ℕ → ℕ
field_of word width right = word / 2 ^ right % 2 ^ width

-- The word with these bits replaced by the low bits of a value, and all others as before.
abbrev pub with_field : ℕ → ℕ → ℕ → ℕ → ℕ
with_field word width right value =
    word % 2 ^ right + 2 ^ right * (value % 2 ^ width) + 2 ^ (right + width)
    * (word / 2 ^ (right + width))

-- ---- IXP.

-- The state after IXP, or its error: the field at an index, as three words.
-- A word has `elements` fields of `width` bits.
abbrev pub field_indexed : ℕ → ℕ → ℕ → State → List ℕ → Result State Stop
field_indexed elements width j s (index ∷ pointer ∷ rest) =
    if nat_lt index 32768 then
    (if nat_lt (length rest + 2) STACK_WORDS
    then Ok (record s {
      stack = index % elements * width ∷ width ∷ pointer_past pointer (index / elements)
          ∷ rest;
      next = j;
    })
    else Err (Error NoRoom))
    else Err (Error OutOfRange)
field_indexed elements width j s _ = Err (Error StackUnderflow)

-- ---- LDP and STP.

-- The word at a pointer, if the bits are a field of it, or its error: 1 for no field, 7 for a word
-- that is not live.
abbrev pub word_with_field : List ℕ → ℕ → ℕ → ℕ → Result ℕ ExecutionError
word_with_field words pointer width right =
    if is_field width right then ok_or (pointed words pointer) BadAddress else Err OutOfRange

-- The field of the word at a pointer, or its error.
abbrev pub field_at : List ℕ → ℕ → ℕ → ℕ → Result ℕ ExecutionError
field_at words pointer width right =
    word_with_field words pointer width right >>= λ word. Ok (field_of word width right)

-- The state after LDP, or its error: the field takes the place of the three words that name it.
-- Source: Manual, LDP.
abbrev pub field_loaded : ℕ → State → List ℕ → Result State Stop
field_loaded j s (right ∷ width ∷ pointer ∷ rest) =
    put_above (field_at s.words pointer width right) j s rest
field_loaded j s _ = Err (Error StackUnderflow)

-- The word at a pointer with a value in the field, or its error.
abbrev pub changed_at : List ℕ → ℕ → ℕ → ℕ → ℕ → Result ℕ ExecutionError
changed_at words pointer width right value =
    word_with_field words pointer width right >>= λ word. Ok (with_field word width right value)

-- The state with a word stored at a pointer and this stack, or the error.
abbrev pub put_at : Result ℕ ExecutionError → ℕ → ℕ → State → List ℕ → Result State Stop
put_at (Ok word) pointer j s rest =
    Ok (record s { words = with_word s.words (pointer / 2) word; stack = rest; next = j })
put_at (Err error) pointer j s rest = Err (Error error)

-- The state after STP, or its error: the word's low bits go to the field that the three words below
-- it name.
-- Source: Manual, STP.
abbrev pub field_stored : ℕ → State → List ℕ → Result State Stop
field_stored j s (value ∷ right ∷ width ∷ pointer ∷ rest) =
    put_at (changed_at s.words pointer width right value) pointer j s rest
field_stored j s _ = Err (Error StackUnderflow)
