use Rattle.std.proofs.Common.{◌≡◌, ℕ, ◌+◌, ◌-◌, ◌<◌, List, ◌∷◌, IsTrue, take, drop, slice_set, arith}
use Rattle.std.proofs.lemmas.Bool.Decides.{nat_tests}
use Rattle.std.proofs.lemmas.Grind.{common_steps}
use Rattle.std.proofs.lemmas.List.{drop-drop}
use Rattle.std.proofs.lemmas.List.Edits.{paste_more}
use Rattle.pcode_frames.specs.Blocks.{is_live, with_block}
use Rattle.pcode_frames.proofs.memory.Memory.pop_block.Goals as goal

-- a word more over memory is a word more taken from the stack
with_block_more : (live stack rest : List ℕ) (word n k value : ℕ) → IsTrue (is_live live word n) → k < n → drop k stack ≡ value ∷ rest
    → slice_set (with_block live word (take k stack)) (word + k - 1) value ≡ with_block live word (take (k + 1) stack)
with_block_more live stack rest word n k value h below e = grind (arith, common_steps, paste_more live (word - 1) stack k value)

pub loop-above-preserved : goal.loop-above-preserved
loop-above-preserved c = grind (arith, nat_tests, with_block_more, drop-drop 1 c.loop-above.above c.args.stack.now)
