use Rattle.pcode_ops.specs.Loading.{flow_of}
use Rattle.pcode_ops.proofs.FirstFaults.{holds_not, flows_out, first_fault, is_faulty, one_fault}
use Rattle.pcode_ops.proofs.Unread.{bytes_unread, not_read}
use Rattle.pcode_ops.proofs.laws.first_fault_is_of_its_check.Goals as goal

pub returns : goal.returns
returns c = record {
  bytes = λ code i f. (bytes_unread code i f, not_read code i f);
  held = holds_not;
  flows = λ segment q instr. flows_out segment q (flow_of instr);
  fault = λ p i f procs. (first_fault p i procs f, is_faulty p i procs f);
  one = λ p i f g procs. one_fault p i procs f g;
}
