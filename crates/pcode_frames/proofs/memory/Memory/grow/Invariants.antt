use Rattle.std.proofs.Common.{◌≡◌, ◌≤◌, ◌+◌, ◌++◌, replicate, vec_len, vec_capacity}
use Rattle.pcode_frames.proofs.memory.Memory.grow.Given as goal

-- this many words were added, all zero, and the room is still there
abbrev pub invariant-loop : goal.invariant-loop
invariant-loop l = record {
  items : l.self-inside.words.items ≡ l.initial.self-inside.words.items ++ replicate l.counter 0;
  len : vec_len l.self-inside.words ≡ vec_len l.initial.self-inside.words + l.counter;
  room : 16383 ≤ vec_capacity l.self-inside.words;
}
