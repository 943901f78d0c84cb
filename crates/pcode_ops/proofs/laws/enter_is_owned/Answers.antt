use Rattle.pcode_ops.proofs.Allowed.{ends_owned}
use Rattle.pcode_ops.proofs.laws.enter_is_owned.Goals as goal

pub returns : goal.returns
returns c = λ p n q procs at. (ends_owned p n q procs at).0
