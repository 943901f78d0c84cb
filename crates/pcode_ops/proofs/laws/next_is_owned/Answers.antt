use Rattle.pcode_ops.proofs.Allowed.{next_owned}
use Rattle.pcode_ops.proofs.laws.next_is_owned.Goals as goal

pub returns : goal.returns
returns c = next_owned
