use Rattle.pcode_ops.proofs.Operating.{operands_fit}
use Rattle.pcode_ops.proofs.laws.packing_is_checked.Goals as goal

pub returns : goal.returns
returns c = λ code i instr j e. (operands_fit code i instr j e).0
