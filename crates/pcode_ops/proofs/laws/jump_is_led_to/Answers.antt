use Rattle.pcode_ops.proofs.JumpTargets.{jump_stays}
use Rattle.pcode_ops.proofs.laws.jump_is_led_to.Goals as goal

pub returns : goal.returns
returns c = jump_stays
