use Rattle.std.proofs.Common.{arith}
use Rattle.std.proofs.lemmas.Bool.Decides.{nat_tests}
use Rattle.std.specs.FinMap.{get-empty}
use Rattle.paxos_learner.proofs.Hearing.{accepted_in_range, learn_in_range}
use Rattle.paxos_learner.proofs.laws.values_fit.Goals as goal

pub returns : goal.returns
returns c = grind (arith, nat_tests, get-empty, accepted_in_range, learn_in_range)
