use Rattle.std.proofs.Common.{arith}
use Rattle.std.proofs.lemmas.Bool.Decides.{nat_tests}
use Rattle.paxos_proposer.proofs.InRange.{next_fits, part_in_range, proposing_in_range}
use Rattle.paxos_proposer.proofs.laws.what_goes_out_fits.Goals as goal

pub returns : goal.returns
returns c = record {
  begins = λ b from size ballot low. grind (arith, nat_tests);
  parts = part_in_range;
  proposes = λ p offered h free. proposing_in_range p h offered free;
  sends = λ p offered v h free e. grind (arith, next_fits p h offered free v e);
  again = λ p s v h e. grind (arith, h.proposed s v e);
}
