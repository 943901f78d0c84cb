use Rattle.std.proofs.Common.{◌≡◌, ◌≤◌, take, drop, vec_len, vec_capacity}
use Rattle.pcode_frames.specs.Blocks.{with_block}
use Rattle.pcode_frames.proofs.memory.Memory.pop_block.Given as goal

-- the words so far have moved, in their order on the stack
abbrev pub invariant-loop-above : goal.invariant-loop-above
invariant-loop-above l = record {
  memory : l.self-inside.words.items ≡ with_block l.initial.self-inside.words.items l.word (take l.above l.initial.stack);
  len : vec_len l.self-inside.words ≡ vec_len l.initial.self-inside.words;
  room : 16383 ≤ vec_capacity l.self-inside.words;
  stack : l.stack ≡ drop l.above l.initial.stack;
}
