use Rattle.group_rules.proofs.GroupsReached.{takeover}
use Rattle.group_rules.proofs.laws.reachable.takeover.Goals as goal

pub returns : goal.returns
returns c = takeover
