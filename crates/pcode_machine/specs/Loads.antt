-- Instructions that push a word, which are constants, words of frames and pointers to them, and
-- those that store one: STL, STR, SRO.
use Rattle.std.specs.Prelude.{ℕ, ◌*◌, ◌%◌, nat_lt, if◌then◌else◌, List, [], ◌∷◌, length, is_some, Option, Some, None, Result, Ok, Err}
use Rattle.pcode_frames.specs.declared.limits.TheConstants.{STACK_WORDS}
use Rattle.pcode_frames.specs.Words.{live_word_at, with_word}
use Rattle.pcode_machine.specs.declared.turn.Stop.{Stop}
use Rattle.pcode_machine.specs.declared.turn.Stop.TheVariants.{Error}
use Rattle.pcode_machine.specs.Configuration.{State}
use Rattle.pcode_machine.specs.declared.errors.ExecutionError.TheVariants.{StackUnderflow, NoRoom, BadAddress}

-- The state with a word pushed, where execution goes on at `j`; or error 4.
-- The stack has at most 1,024 words.
abbrev pub pushed : ℕ → ℕ → State → Result State Stop
pushed word j s =
    if nat_lt (length s.stack) STACK_WORDS then Ok (record s { stack = word ∷ s.stack; next = j })
    else Err (Error NoRoom)

-- The address of a word in bytes: twice its number, modulo 65,536.
abbrev pub address_of : ℕ → ℕ
address_of n = 2 * n % 65536

-- The state with a word pushed if it is live, or the error.
abbrev pub loaded_by : Option ℕ → ℕ → State → Result State Stop
loaded_by None j s = Err (Error BadAddress)
loaded_by (Some v) j s = pushed v j s

-- The state with the word at a word address pushed, or the error.
abbrev pub loaded : ℕ → ℕ → State → Result State Stop
loaded word j s = loaded_by (live_word_at s.words word) j s

-- The state after the word on top of this stack went to a live word, where execution goes on at
-- `j`; or its error.
abbrev pub stored : ℕ → ℕ → State → List ℕ → Result State Stop
stored word j s [] = Err (Error StackUnderflow)
stored word j s (v ∷ rest) =
    if is_some (live_word_at s.words word)
    then Ok (record s { words = with_word s.words word v; stack = rest; next = j })
    else Err (Error BadAddress)
