use Rattle.std.proofs.Common.{arith}
use Rattle.pcode_ops.proofs.Marking.{listing_empty}
use Rattle.pcode_ops.proofs.walk.Walk.new.Goals as goal

pub invariant_of-result : goal.invariant_of-result
invariant_of-result c = grind (arith, listing_empty c.args.size)
