use Rattle.std.proofs.Common.{arith}
use Rattle.std.proofs.lemmas.Bool.Decides.{nat_tests}
use Rattle.std.specs.FinMap.{get-empty}
use Rattle.paxos_learner.proofs.Backing.{accepted_backed, learn_backed}
use Rattle.paxos_learner.proofs.laws.stays_backed.Goals as goal

pub returns : goal.returns
returns c = grind (arith, nat_tests, get-empty, accepted_backed, learn_backed)
