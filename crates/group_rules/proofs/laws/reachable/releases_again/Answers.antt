use Rattle.group_rules.proofs.GroupsReached.{releases_again}
use Rattle.group_rules.proofs.laws.reachable.releases_again.Goals as goal

pub returns : goal.returns
returns c = releases_again (record { step = c.step_is_transition.ensures.step })
