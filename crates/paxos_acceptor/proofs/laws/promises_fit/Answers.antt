use Rattle.std.proofs.Common.{arith}
use Rattle.std.proofs.lemmas.Bool.Decides.{nat_tests}
use Rattle.paxos_acceptor.proofs.Fitting.{prepare_fits}
use Rattle.paxos_acceptor.proofs.Ranges.{promise_in_ranges}
use Rattle.paxos_acceptor.proofs.laws.promises_fit.Goals as goal

pub returns : goal.returns
returns c = record {
  says = prepare_fits;
  kept = λ size from r b h ballot place. grind (arith, nat_tests, promise_in_ranges);
}
