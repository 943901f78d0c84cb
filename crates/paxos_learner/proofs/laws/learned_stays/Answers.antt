use Rattle.std.proofs.Common.{arith}
use Rattle.std.proofs.lemmas.Bool.Decides.{nat_tests}
use Rattle.paxos_learner.proofs.OnePlace.{get_put}
use Rattle.paxos_learner.proofs.laws.learned_stays.Goals as goal

pub returns : goal.returns
returns c = grind (arith, nat_tests, get_put)
