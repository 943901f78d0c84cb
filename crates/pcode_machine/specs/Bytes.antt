-- Bytes at an index after a pointer: LDB, STB.
use Rattle.std.specs.Prelude.{ℕ, ◌%◌, if◌then◌else◌, List, ◌∷◌, Option, Some, None, is_some, Result, Ok, Err, ℤ, pos, ◌+ℤ◌}
use Rattle.pcode_frames.specs.Words.{live_byte_at, with_byte}
use Rattle.pcode_machine.specs.declared.turn.Stop.{Stop}
use Rattle.pcode_machine.specs.declared.turn.Stop.TheVariants.{Error}
use Rattle.pcode_machine.specs.Configuration.{State}
use Rattle.pcode_machine.specs.Arithmetic.{signed}
use Rattle.pcode_machine.specs.declared.errors.ExecutionError.TheVariants.{StackUnderflow, BadAddress}

-- The byte address at an index after a base, not modulo 65,536.
-- The index is signed, the base is not.
abbrev pub byte_address : ℕ → ℕ → ℤ
byte_address base index = pos base +ℤ signed index

-- The state with a byte pushed above these words, if it is live.
abbrev pub byte_pushed : Option ℕ → ℕ → State → List ℕ → Result State Stop
byte_pushed None j s rest = Err (Error BadAddress)
byte_pushed (Some b) j s rest = Ok (record s { stack = b ∷ rest; next = j })

-- The state after LDB, or its error: the byte takes the place of index and base.
-- Source: Manual, LDB.
abbrev pub byte_loaded : ℕ → State → List ℕ → Result State Stop
byte_loaded j s (index ∷ base ∷ rest) =
    byte_pushed (live_byte_at s.words (byte_address base index)) j s rest
byte_loaded j s _ = Err (Error StackUnderflow)

-- The state after STB, or its error: the word's low byte goes to the live byte at index and base.
-- Source: Manual, STB.
abbrev pub byte_stored : ℕ → State → List ℕ → Result State Stop
byte_stored j s (v ∷ index ∷ base ∷ rest) =
    if is_some (live_byte_at s.words (byte_address base index))
    then Ok (record s {
      words = with_byte s.words (byte_address base index) (v % 256);
      stack = rest;
      next = j;
    })
    else Err (Error BadAddress)
byte_stored j s _ = Err (Error StackUnderflow)
