use Rattle.group_node.proofs.Exact.{exact_replay}
use Rattle.group_node.proofs.node.Node.unreleased.Goals as goal

pub returns-clause-replay : goal.returns-clause-replay
returns-clause-replay g c = rw (← c.self.view_is) (exact_replay c.run_is_after.ensures c.self.invariant)
