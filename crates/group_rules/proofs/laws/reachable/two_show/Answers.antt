use Rattle.group_rules.proofs.GroupsReached.{two_show}
use Rattle.group_rules.proofs.laws.reachable.two_show.Goals as goal

pub returns : goal.returns
returns c = two_show (record { step = c.step_is_transition.ensures.step })
