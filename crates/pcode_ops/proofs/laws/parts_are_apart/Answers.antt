use Rattle.pcode_ops.proofs.Apart.{owned}
use Rattle.pcode_ops.proofs.laws.parts_are_apart.Goals as goal

pub returns : goal.returns
returns c = owned
