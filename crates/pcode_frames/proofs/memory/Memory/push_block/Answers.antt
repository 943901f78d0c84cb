use Rattle.std.proofs.Common.{◌-◌, arith}
use Rattle.std.proofs.lemmas.Bool.Decides.{nat_tests}
use Rattle.std.proofs.lemmas.List.{drop_more, length-drop, length-take, get_or-drop, get_or-take}
use Rattle.pcode_frames.specs.Blocks.{block_of}
use Rattle.pcode_frames.proofs.memory.Memory.push_block.Goals as goal

-- the words of the block from one on begin with it
pub loop-above-preserved : goal.loop-above-preserved
loop-above-preserved c =
    let k = c.loop-above.above - 1 in
    let block = block_of c.args.self.now c.args.word c.args.words in
    grind (arith, nat_tests, length-take, length-drop, drop_more block k c.index-value.result.now, get_or-take, get_or-drop)
