use Rattle.paxos_learner.proofs.KeyTests.{found, found_learned}
use Rattle.paxos_learner.proofs.laws.key_tests_are_exact.Goals as goal

pub returns : goal.returns
returns c = record { has = found; learned = found_learned }
