-- The state of a machine, and the start of a program.
use Rattle.std.specs.Prelude.{ℕ, ◌+◌, nat_le, if◌then◌else◌, List, [], ◌∷◌, replicate, Option, Some, None}
use Rattle.pcode_frames.specs.declared.limits.TheConstants.{LIVE_WORDS}
use Rattle.pcode_file.specs.declared.file.Proc.{Proc}
use Rattle.pcode_file.specs.Parts.{Parts, procedure_of}
use Rattle.pcode_frames.specs.declared.frame.Frame.{Frame}
pub use Rattle.pcode_frames.specs.Frames.{current_of}
use Rattle.pcode_machine.specs.declared.turn.Transfer.{Transfer}

-- The state that a machine keeps.
-- It has the live words from word 1 on; the frames, the main frame first and the current one last;
-- the evaluation stack, its top first; the next offset; IORESULT; and the bytes still to be moved.
-- Source: Manual, p-machine.
pub record State : Type 0 where
  pub words : List ℕ
  pub frames : List Frame
  pub stack : List ℕ
  pub next : ℕ
  pub io_result : ℕ
  pub transfer : Option Transfer

-- A state with the number of input bytes that were read and the output.
pub record Configuration : Type 0 where
  pub state : State
  pub read : ℕ
  pub output : List ℕ

-- A state, a number of bytes read and an output, put together.
abbrev pub configuration_of : State → ℕ → List ℕ → Configuration
configuration_of s n output = record { state = s; read = n; output = output }

-- The state without a frame, for a main frame that does not fit.
abbrev pub unframed : ℕ → State
unframed enter =
    record { words = []; frames = []; stack = []; next = enter; io_result = 0; transfer = None }

-- The state at ENTER with a main frame of `size` words, all zero.
-- Source: Manual, procedure calls.
abbrev pub framed : ℕ → ℕ → State
framed enter size = record {
  words = replicate size 0;
  frames = (record { procedure = 1; base = 0; size = size; link = 0; back = 0 }) ∷ [];
  stack = [];
  next = enter;
  io_result = 0;
  transfer = None;
}

-- The state at the start of procedure 1, which every file has.
abbrev pub start_of : Option Proc → State
start_of None = unframed 0
start_of (Some q) =
    if nat_le (q.params + q.vars) LIVE_WORDS then framed q.enter (q.params + q.vars)
    else unframed q.enter

-- The state at the start of a program.
-- Source: Manual, p-machine.
abbrev pub start : Parts → State
start p = start_of (procedure_of p.procs 1)
