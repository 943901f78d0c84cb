use Rattle.std.proofs.Common.{arith}
use Rattle.std.specs.FinMap.{empty, get-empty}
use Rattle.std.specs.Ordering.{nat_cmp}
use Rattle.paxos_msg.specs.declared.value.Value.{Value}
use Rattle.paxos_learner.proofs.OnePlace.{get_here}
use Rattle.group_rules.specs.WrongSteps.{batch_40}
use Rattle.group_rules.proofs.laws.steps.wrong_starts.Goals as goal

pub returns-clause-keeps_learned : goal.returns-clause-keeps_learned
returns-clause-keeps_learned c h = grind (arith, get-empty {X = Value} nat_cmp 700, get_here empty 700 (batch_40 65))
