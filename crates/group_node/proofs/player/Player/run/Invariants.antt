use Rattle.paxos_learner.specs.Input.{learned_input}
use Rattle.group_node.specs.Output.{most_of}
use Rattle.group_node.specs.Player.{RanSoFar}
use Rattle.group_node.proofs.player.Player.run.Given as goal

abbrev pub invariant-loop-left : goal.invariant-loop-left
invariant-loop-left l = RanSoFar (learned_input l.learner.learned) (most_of l.fn.self.steps l.steps) l.left l.fn.self l.self

abbrev pub decreases-loop-left : goal.decreases-loop-left
decreases-loop-left l = l.left
