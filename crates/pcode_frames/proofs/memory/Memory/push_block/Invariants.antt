use Rattle.std.proofs.Common.{◌≡◌, ◌++◌, drop}
use Rattle.pcode_frames.specs.Blocks.{block_of}
use Rattle.pcode_frames.proofs.memory.Memory.push_block.Given as goal

-- the highest words of the block are pushed so far
abbrev pub invariant-loop-above : goal.invariant-loop-above
invariant-loop-above l = l.stack ≡ drop l.above (block_of l.self l.word l.words) ++ l.initial.stack
