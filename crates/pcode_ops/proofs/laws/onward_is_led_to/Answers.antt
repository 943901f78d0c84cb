use Rattle.pcode_ops.specs.Loading.{flow_of}
use Rattle.pcode_ops.proofs.Ruling.{flow_leads, may_flow}
use Rattle.pcode_ops.proofs.laws.onward_is_led_to.Goals as goal

pub returns : goal.returns
returns c = record {
  leads = λ segment q instr. flow_leads segment q (flow_of instr);
  flows = λ segment q instr. may_flow segment q (flow_of instr);
}
