use Rattle.group_rules.proofs.GroupsReached.{two_starts}
use Rattle.group_rules.proofs.laws.reachable.two_starts.Goals as goal

pub returns : goal.returns
returns c = two_starts
