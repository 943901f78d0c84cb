-- Frames: how a call, a return and a static link change memory, evaluation stack and frames.
use Rattle.std.specs.Prelude.{ℕ, zero, suc, ◌+◌, ◌-◌, ◌≤◌, nat_lt, ◌||◌, if◌then◌else◌, Bool, List, [], ◌∷◌, ◌++◌, length, take, drop, replicate, slice_get, Option, Some, None, IfSome, Result, Ok, Err}
use Rattle.std.specs.Option.{option_map, option_and_then}
use Rattle.pcode_frames.specs.declared.frame.Frame.{Frame}
use Rattle.pcode_frames.specs.declared.halt.Halt.{Halt}
use Rattle.pcode_frames.specs.declared.limits.TheConstants.{LIVE_WORDS, STACK_WORDS, MOST_FRAMES}
use Rattle.pcode_frames.specs.declared.halt.Halt.TheVariants.{Empty, Overflow, BadMemory}

-- The number of a refusal's execution error.
-- Source: Manual, execution errors.
abbrev pub halt_number : Halt → ℕ
halt_number Empty = 0
halt_number Overflow = 4
halt_number BadMemory = 7

-- Memory, evaluation stack and frames as one value.
-- The live words run from word 1 on. The stack has its top first. The frames have the main frame
-- first and the current one last.
pub record Space : Type 0 where
  pub words : List ℕ
  pub stack : List ℕ
  pub frames : List Frame

-- Memory, evaluation stack and frames, put together.
abbrev pub space : List ℕ → List ℕ → List Frame → Space
space words stack frames = record { words = words; stack = stack; frames = frames }

-- The space after a call or a return that succeeded, or why it was refused.
abbrev pub space_if_ok : {A : Type 0} → Result A Halt → Space → Result Space Halt
space_if_ok (Ok a) p = Ok p
space_if_ok (Err halt) p = Err halt

-- The current frame, if there is one: the last of the list.
abbrev pub current_of : List Frame → Option Frame
current_of frames = slice_get frames (length frames - 1)

-- The test that one more frame of `size` words does not fit.
-- Allows: a frame that fills memory, and the last frame of `MOST_FRAMES`.
abbrev pub is_full : Space → ℕ → Bool
is_full p size =
    nat_lt (MOST_FRAMES - 1) (length p.frames) || nat_lt LIVE_WORDS (length p.words + size)

-- The frame of a procedure above all live words.
abbrev pub frame_of : Space → ℕ → ℕ → ℕ → ℕ → Frame
frame_of p procedure size link back =
    record { procedure = procedure; base = length p.words; size = size; link = link; back = back }

-- The space after a call, or why it is refused.
-- The parameters leave the stack for the new frame: its old top gets offset 1, the next offset 2.
-- The words of its data are zero. Too few words on the stack are refused before lack of room.
-- Source: Manual, procedure calls. The order of refusals is this project's.
abbrev pub space_after_call : ℕ → ℕ → ℕ → ℕ → ℕ → Space → Result Space Halt
space_after_call procedure params vars link back p =
    if nat_lt (length p.stack) params then Err Empty
    else (if is_full p (params + vars) then Err Overflow
    else Ok (record {
      words = p.words ++ (take params p.stack ++ replicate vars 0);
      stack = drop params p.stack;
      frames = p.frames ++ frame_of p procedure (params + vars) link back ∷ [];
    }))

-- The space with a main frame, of procedure 1, with `size` words, all zero; or why it is refused.
-- Source: Manual, procedure calls.
abbrev pub space_after_start : ℕ → Space → Result Space Halt
space_after_start size p = space_after_call 1 0 size 0 0 p

-- The space after a return from `frame` with n of its words, or why it is refused.
-- The words at offsets n down to 1 are pushed in this order. A word that is not live is refused
-- before lack of room.
-- Source: Manual, procedure calls. The order of refusals is this project's.
abbrev pub space_after_ret : ℕ → Frame → Space → Result Space Halt
space_after_ret n frame p =
    if nat_lt (length p.words) (frame.base + n) then Err BadMemory
    else (if nat_lt STACK_WORDS (length p.stack + n) then Err Overflow
    else Ok (record {
      words = take frame.base p.words;
      stack = take n (drop frame.base p.words) ++ p.stack;
      frames = take (length p.frames - 1) p.frames;
    }))

-- The static link of the frame at index `i`.
-- Forbids: the link of the main frame, which is not followed.
-- Source: Manual, static links.
abbrev pub link_at : List Frame → ℕ → Option ℕ
link_at frames zero = None
link_at frames (suc i) = option_map (λ (frame : Frame). frame.link) (slice_get frames (suc i))

-- The index of the frame n static links up from the frame at index `i`, if there is one.
-- Source: Manual, static links.
abbrev pub up_from : List Frame → ℕ → ℕ → Option ℕ
up_from frames zero i = Some i
up_from frames (suc n) i = option_and_then (up_from frames n) (link_at frames i)

-- The index of the frame n static links up from the current one, if there is one.
-- Forbids: following the main frame's link.
-- Source: Manual, static links.
abbrev pub link_up_of : List Frame → ℕ → Option ℕ
link_up_of [] n = None
link_up_of (main ∷ frames) n = up_from (main ∷ frames) n (length frames)

-- The invariant of the frames: each link is below its frame's index, and the main frame's is 0.
pub record AreLinked (frames : List Frame) : Type 0 where
  pub below : (i : ℕ) → IfSome (slice_get frames i) (λ frame. frame.link ≤ i - 1)
