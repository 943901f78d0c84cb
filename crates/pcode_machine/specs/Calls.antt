-- Jumps that pop their operands, calls and returns, and the frames to which static links lead.
use Rattle.std.specs.Prelude.{ℕ, ◌+◌, ◌-◌, List, [], ◌∷◌, Option, Result, Ok, Err, slice_get}
use Rattle.std.specs.Option.{option_and_then}
use Rattle.pcode_file.specs.declared.file.Proc.{Proc}
use Rattle.pcode_file.specs.Parts.{Parts, procedure_of}
use Rattle.pcode_frames.specs.declared.frame.Frame.{Frame}
use Rattle.pcode_frames.specs.declared.halt.Halt.{Halt}
use Rattle.pcode_frames.specs.Frames.{space_after_call, space_after_ret, space, link_up_of}
use Rattle.pcode_frames.specs.Frames as frames
use Rattle.pcode_machine.specs.declared.turn.Stop.{Stop}
use Rattle.pcode_machine.specs.declared.turn.Stop.TheVariants.{Error}
use Rattle.pcode_machine.specs.Configuration.{State}
use Rattle.pcode_machine.specs.declared.errors.ExecutionError.TheVariants.{StackUnderflow}
use Rattle.pcode_machine.specs.Errors.{error_of}

-- ---- Jumps.

-- The state after a jump to where the word popped from this stack says, or its error.
abbrev pub branched : (ℕ → ℕ) → State → List ℕ → Result State Stop
branched to s [] = Err (Error StackUnderflow)
branched to s (v ∷ rest) = Ok (record s { stack = rest; next = to v })

-- The state after a jump to where two popped words say, the lower one first, or its error.
abbrev pub branched_by_two : (ℕ → ℕ → ℕ) → State → List ℕ → Result State Stop
branched_by_two to s (b ∷ a ∷ rest) = Ok (record s { stack = rest; next = to a b })
branched_by_two to s _ = Err (Error StackUnderflow)

-- ---- Calls and returns.

-- The frame `n` static links up from the current one, if there is one.
-- Source: Manual, static links.
abbrev pub frame_up : List Frame → ℕ → Option Frame
frame_up fs n = option_and_then (λ k. slice_get fs k) (link_up_of fs n)

-- The index of the frame to which the procedure in frame `f` links procedure `n`: one lex level
-- further out than `n`.
-- It is as many static links up from the current frame as the caller's level is above that one.
-- Source: Manual, static links. For CIP it is this project's reading.
abbrev pub link_outward : Parts → Frame → ℕ → List Frame → Option ℕ
link_outward p f n fs =
    option_and_then (λ (caller : Proc).
    option_and_then (λ (callee : Proc). link_up_of fs (caller.level + 1 - callee.level))
    (procedure_of p.procs n))
    (procedure_of p.procs f.procedure)

-- The state with the words, stack and frames after a call or a return, where execution goes on at
-- an offset.
abbrev pub with_parts : ℕ → State → Result frames.Space Halt → Result State Stop
with_parts next s (Ok new) =
    Ok (record s { words = new.words; stack = new.stack; frames = new.frames; next = next })
with_parts next s (Err halt) = Err (Error (error_of halt))

-- The state after a call of procedure `n`, which goes on at `j` when it returns; or its error.
-- Source: Manual, procedure calls.
abbrev pub entered_state : ℕ → Proc → ℕ → ℕ → State → Result State Stop
entered_state n callee link j s =
    with_parts callee.enter s
    (space_after_call n callee.params callee.vars link j (space s.words s.stack s.frames))

-- The state after the procedure of the current frame returned with `words` words, or its error.
-- Source: Manual, procedure calls.
abbrev pub left : ℕ → Frame → State → Result State Stop
left words frame s =
    with_parts frame.back s (space_after_ret words frame (space s.words s.stack s.frames))
