use Rattle.std.proofs.Common.{arith}
use Rattle.std.proofs.lemmas.Bool.Decides.{nat_tests}
use Rattle.std.specs.FinMap.{get-empty}
use Rattle.paxos_learner.proofs.Hearing.{accepted_in_window, insert_in_window}
use Rattle.paxos_learner.proofs.laws.window_holds.Goals as goal

pub returns : goal.returns
returns c = grind (arith, nat_tests, get-empty, accepted_in_window, insert_in_window)
