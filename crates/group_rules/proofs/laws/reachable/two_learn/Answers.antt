use Rattle.group_rules.proofs.GroupsReached.{two_learn}
use Rattle.group_rules.proofs.laws.reachable.two_learn.Goals as goal

pub returns : goal.returns
returns c = two_learn
