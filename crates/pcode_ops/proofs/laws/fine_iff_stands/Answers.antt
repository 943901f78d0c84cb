use Rattle.pcode_ops.proofs.FirstFaults.{fine_stands, stands_leads}
use Rattle.pcode_ops.proofs.laws.fine_iff_stands.Goals as goal

pub returns : goal.returns
returns c = record {
  fine = fine_stands;
  leads = λ p i q instr j o procs. stands_leads p i procs q instr j o;
}
