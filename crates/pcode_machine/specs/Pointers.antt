-- Instructions that read and write at pointers, which are addresses in bytes: STO, SIND, IND.
use Rattle.std.specs.Prelude.{ℕ, ◌+◌, ◌*◌, ◌/◌, ◌%◌, ◌==◌, if◌then◌else◌, List, [], ◌∷◌, Option, Some, None, is_some, Result, Ok, Err}
use Rattle.pcode_frames.specs.Words.{live_word_at, with_word}
use Rattle.pcode_machine.specs.declared.turn.Stop.{Stop}
use Rattle.pcode_machine.specs.declared.turn.Stop.TheVariants.{Error}
use Rattle.pcode_machine.specs.Configuration.{State}
use Rattle.pcode_machine.specs.declared.errors.ExecutionError.TheVariants.{StackUnderflow, BadAddress}

-- The pointer `words` words after a pointer, modulo 65,536.
abbrev pub pointer_past : ℕ → ℕ → ℕ
pointer_past pointer words = (pointer + 2 * words) % 65536

-- The word at a pointer, if the pointer is even and the word is live.
abbrev pub pointed : List ℕ → ℕ → Option ℕ
pointed live pointer = if pointer % 2 == 0 then live_word_at live (pointer / 2) else None

-- The state with a word above these, if it is live, or error 7.
abbrev pub fetched_by : Option ℕ → ℕ → State → List ℕ → Result State Stop
fetched_by None j s rest = Err (Error BadAddress)
fetched_by (Some v) j s rest = Ok (record s { stack = v ∷ rest; next = j })

-- The state after the pointer on top of this stack was replaced by the word `words` words after it,
-- or its error.
abbrev pub fetched : ℕ → ℕ → State → List ℕ → Result State Stop
fetched words j s [] = Err (Error StackUnderflow)
fetched words j s (pointer ∷ rest) =
    fetched_by (pointed s.words (pointer_past pointer words)) j s rest

-- The state after the word on top of this stack went to where the pointer below it points, or its
-- error.
abbrev pub stored_at : ℕ → State → List ℕ → Result State Stop
stored_at j s [] = Err (Error StackUnderflow)
stored_at j s (v ∷ []) = Err (Error StackUnderflow)
stored_at j s (v ∷ pointer ∷ rest) =
    if is_some (pointed s.words pointer)
    then Ok (record s { words = with_word s.words (pointer / 2) v; stack = rest; next = j })
    else Err (Error BadAddress)
