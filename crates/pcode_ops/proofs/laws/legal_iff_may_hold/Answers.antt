use Rattle.pcode_ops.proofs.Ruling.{may_hold}
use Rattle.pcode_ops.proofs.laws.legal_iff_may_hold.Goals as goal

pub returns : goal.returns
returns c = may_hold
