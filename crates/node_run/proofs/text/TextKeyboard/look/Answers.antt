use Rattle.std.proofs.Common.{refl}
use Rattle.node_run.proofs.Course.{gift_none}
use Rattle.node_run.proofs.text.TextKeyboard.look.Goals as goal

pub returns : goal.returns
returns c = record { came = gift_none _; counted = refl }
