-- Blocks of words at pointers: MOV, LDM, STM.
use Rattle.std.specs.Prelude.{◌≡◌, ◌<◌, ◌≤◌, ℕ, ◌+◌, ◌/◌, ◌%◌, nat_lt, ◌==◌, ◌&&◌, ◌||◌, if◌then◌else◌, Bool, List, [], ◌∷◌, ◌++◌, length, take, drop, Option, Some, None, slice_get, Result, Ok, Err}
use Rattle.pcode_frames.specs.declared.limits.TheConstants.{STACK_WORDS}
use Rattle.pcode_frames.specs.Blocks.{is_live, block_of, with_block}
use Rattle.pcode_frames.specs.Words.{live_word_at}
use Rattle.pcode_machine.specs.declared.turn.Stop.{Stop}
use Rattle.pcode_machine.specs.declared.turn.Stop.TheVariants.{Error}
use Rattle.pcode_machine.specs.Configuration.{State}
use Rattle.pcode_machine.specs.declared.errors.ExecutionError.TheVariants.{StackUnderflow, NoRoom, BadAddress}

-- The test that `n` words from a pointer on are live, and the pointer is even.
-- Allows: any pointer to no words.
abbrev pub is_block : List ℕ → ℕ → ℕ → Bool
is_block live pointer n = (n == 0) || ((pointer % 2 == 0) && is_live live (pointer / 2) n)

-- The state after MOV, or its error.
-- It copies `n` words, all read first, from the pointer on top to the one below it.
-- Source: Manual, MOV.
abbrev pub block_moved : ℕ → ℕ → State → List ℕ → Result State Stop
block_moved n j s (from ∷ to ∷ rest) =
    if is_block s.words from n && is_block s.words to n
    then Ok (record s {
      words = with_block s.words (to / 2) (block_of s.words (from / 2) n);
      stack = rest;
      next = j;
    })
    else Err (Error BadAddress)
block_moved n j s _ = Err (Error StackUnderflow)

-- The state after LDM, or its error.
-- `n` words from the pointer on take its place, the first on top. Words that are not live are
-- refused before lack of room.
-- Source: Manual, LDM. The order of errors is this project's.
abbrev pub block_loaded : ℕ → ℕ → State → List ℕ → Result State Stop
block_loaded n j s (pointer ∷ rest) =
    if is_block s.words pointer n then
    (if nat_lt STACK_WORDS (length rest + n) then Err (Error NoRoom)
    else Ok (record s { stack = block_of s.words (pointer / 2) n ++ rest; next = j }))
    else Err (Error BadAddress)
block_loaded n j s [] = Err (Error StackUnderflow)

-- The state after `n` words, the top first, went to the live words from a pointer on, or the error.
abbrev pub block_stored_at : Option ℕ → ℕ → ℕ → State → Result State Stop
block_stored_at None n j s = Err (Error StackUnderflow)
block_stored_at (Some pointer) n j s =
    if is_block s.words pointer n
    then Ok (record s {
      words = with_block s.words (pointer / 2) (take n s.stack);
      stack = drop (n + 1) s.stack;
      next = j;
    })
    else Err (Error BadAddress)

-- The state after STM, or its error.
-- The pointer is below the `n` words.
-- Source: Manual, STM.
abbrev pub block_stored : ℕ → ℕ → State → Result State Stop
block_stored n j s = block_stored_at (slice_get s.stack n) n j s

-- The facts of live words: the `n` from a word address on are this block, and all others are as
-- before.
pub record HasBlock (old new : List ℕ) (word n : ℕ) (block : ℕ → Option ℕ) : Type 0 where
  pub inside : (k : ℕ) → k < n → live_word_at new (word + k) ≡ block k
  pub below : (w : ℕ) → w < word → live_word_at new w ≡ live_word_at old w
  pub above : (w : ℕ) → word + n ≤ w → live_word_at new w ≡ live_word_at old w
