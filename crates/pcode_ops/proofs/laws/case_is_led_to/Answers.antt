use Rattle.pcode_ops.proofs.JumpTargets.{case_leads, case_table}
use Rattle.pcode_ops.proofs.laws.case_is_led_to.Goals as goal

pub returns : goal.returns
returns c = record { leads = case_leads; table = case_table }
