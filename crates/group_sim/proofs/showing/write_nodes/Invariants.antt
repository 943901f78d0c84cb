use Rattle.std.proofs.Common.{◌+◌}
use Rattle.group_sim.specs.Texts.{AppendsText, held}
use Rattle.group_sim.specs.Groups.{lines_below, node_line}
use Rattle.group_sim.proofs.showing.write_nodes.Given as goal

abbrev pub invariant-loop-before : goal.invariant-loop-before
invariant-loop-before g l =
    let known = held g.W.ByteWriter.contents g.W.ByteWriter.write_faults in
    AppendsText (known l.fn.writer) (known l.writer) (lines_below (λ k. node_line l.world (1 + k)) l.before)
