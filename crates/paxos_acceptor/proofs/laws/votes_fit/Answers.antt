use Rattle.std.proofs.Common.{arith}
use Rattle.std.proofs.lemmas.Bool.Decides.{nat_tests}
use Rattle.paxos_acceptor.proofs.Fitting.{accept_fits}
use Rattle.paxos_acceptor.proofs.Ranges.{vote_in_ranges}
use Rattle.paxos_acceptor.proofs.laws.votes_fit.Goals as goal

pub returns : goal.returns
returns c = record {
  says = accept_fits;
  kept = λ size s r b v h ballot place value. grind (arith, nat_tests, vote_in_ranges);
}
