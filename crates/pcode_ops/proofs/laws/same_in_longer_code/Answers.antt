use Rattle.pcode_ops.proofs.LongerCode.{decoded_longer}
use Rattle.pcode_ops.proofs.laws.same_in_longer_code.Goals as goal

pub returns : goal.returns
returns c = λ code e i found h. (decoded_longer code e i found h).0
