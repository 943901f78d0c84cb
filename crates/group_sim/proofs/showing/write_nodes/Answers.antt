use Rattle.std.proofs.Common.{[], rules, arith}
use Rattle.std.proofs.lemmas.Grind.{common_steps}
use Rattle.group_sim.specs.Groups.{lines_below}
use Rattle.group_sim.proofs.Writing.{failed, line-appended, line-front}
use Rattle.group_sim.proofs.showing.write_nodes.Goals as goal

pub loop-before-init : goal.loop-before-init
unfolding lines_below
loop-before-init g c = grind (arith, common_steps)

pub returns-in_err-write_node : goal.returns-in_err-write_node
returns-in_err-write_node g c =
    failed _ [] (search rules) (line-front _ _ _ c.loop-before-test.true c.loop-before.invariant c.in_err-write_node.ensures)

pub loop-before-preserved : goal.loop-before-preserved
loop-before-preserved g c = line-appended _ _ c.loop-before.invariant c.in_ok-write_node.ensures
