use Rattle.pcode_ops.proofs.FirstFaults.{one_owns, none_owns}
use Rattle.pcode_ops.proofs.laws.owner_has_the_offset.Goals as goal

pub returns : goal.returns
returns c = record { found = one_owns; none = none_owns }
