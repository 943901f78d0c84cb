use Rattle.pcode_ops.proofs.Ruling.{jumps_to}
use Rattle.pcode_ops.proofs.laws.jump_leads.Goals as goal

pub returns : goal.returns
returns c = jumps_to
