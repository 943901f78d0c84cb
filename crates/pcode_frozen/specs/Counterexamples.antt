-- Programs and states by which each part of the relation is seen to be needed.
use Rattle.std.specs.Prelude.{ℕ, List, [], ◌∷◌, Some, None, pos}
use Rattle.pcode_file.specs.Parts.{Parts}
use Rattle.pcode_frames.specs.declared.frame.Frame.{Frame}
use Rattle.pcode_machine.specs.declared.turn.Direction.TheVariants.{Reading}
use Rattle.pcode_machine.specs.Configuration.{State, Configuration, configuration_of}
use Rattle.pcode_frozen.specs.declared.pairs.Pair.{Pair}

-- A program that has done nothing on no input, in this state.
abbrev pub untouched : State → Configuration
untouched s = configuration_of s 0 []

-- The pair of a place of procedure 1 with itself.
abbrev pub itself : ℕ → Pair
itself at = record { procedure = 1; offset = at; other = 1; other_offset = at }

-- ---- A static link, and a base.

-- NOP, NOP, LOD 1 1.
abbrev pub loads : Parts
loads = record {
  name = [];
  segment = 215 ∷ 215 ∷ 182 ∷ 1 ∷ 1 ∷ [];
  number = 1;
  procs = [];
}

-- NOP, NOP, LLA 1.
abbrev pub points : Parts
points = record {
  name = [];
  segment = 215 ∷ 215 ∷ 198 ∷ 1 ∷ [];
  number = 1;
  procs = [];
}

-- The frame of a procedure, of one word, with this base and this static link.
abbrev pub frame_of_word : ℕ → ℕ → ℕ → Frame
frame_of_word procedure base link =
    record { procedure = procedure; base = base; size = 1; link = link; back = 2 }

-- Four frames of a word each. The newest has this base and this static link.
abbrev pub in_frames : ℕ → ℕ → List ℕ → ℕ → State
in_frames base link stack next = record {
  words = 5 ∷ 6 ∷ 7 ∷ 8 ∷ [];
  frames = frame_of_word 1 0 0 ∷ frame_of_word 2 1 0 ∷ frame_of_word 3 2 1
      ∷ frame_of_word 4 base link ∷ [];
  stack = stack;
  next = next;
  io_result = 0;
  transfer = None;
}

-- ---- A word of the jump table.

-- NOP four times and UJP -10, in procedure 1, whose table has `slot` in its first word for jumps. A
-- jump through that word, which is at offset 6, leads `slot` bytes back.
abbrev pub jumps : ℕ → Parts
jumps slot = record {
  name = [];
  segment = 215 ∷ 215 ∷ 215 ∷ 215 ∷ 185 ∷ 246 ∷ slot ∷ 0 ∷ [];
  number = 1;
  procs = (record {
    number = 1;
    level = 0;
    enter = 0;
    exit = 4;
    jtab = 16;
    low = 0;
    params = 0;
    vars = 1;
  }) ∷ [];
}

-- The main frame alone, with this offset next.
abbrev pub in_main : ℕ → State
in_main next = record {
  words = 5 ∷ [];
  frames = frame_of_word 1 0 0 ∷ [];
  stack = [];
  next = next;
  io_result = 0;
  transfer = None;
}

-- ---- A pending transfer.

-- The same, with a byte still to be read to an address that is not live, since the instruction at
-- `at`.
abbrev pub reads : ℕ → State
reads at = record (in_main 4) {
  transfer = Some (record { direction = Reading; unit = 1; address = pos 100; left = 1; at = at });
}
