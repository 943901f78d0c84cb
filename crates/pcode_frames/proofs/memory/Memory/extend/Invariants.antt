use Rattle.std.proofs.Common.{◌≡◌, ◌≤◌, ◌+◌, ◌++◌, length, drop, vec_len, vec_capacity}
use Rattle.pcode_frames.proofs.memory.Memory.extend.Given as goal

-- what is live, and what is still to be added, are the words; and the room is still there
abbrev pub invariant-loop-word : goal.invariant-loop-word
invariant-loop-word l = record {
  items : l.self-inside.words.items ++ drop l.word-index l.words ≡ l.initial.self-inside.words.items ++ l.words;
  len : vec_len l.self-inside.words + length (drop l.word-index l.words) ≡ vec_len l.initial.self-inside.words + length l.words;
  room : 16383 ≤ vec_capacity l.self-inside.words;
}
