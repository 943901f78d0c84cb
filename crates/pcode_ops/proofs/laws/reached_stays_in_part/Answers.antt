use Rattle.pcode_ops.proofs.Leading.{reached_stays}
use Rattle.pcode_ops.proofs.laws.reached_stays_in_part.Goals as goal

pub returns : goal.returns
returns c = reached_stays
