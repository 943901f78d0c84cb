use Rattle.group_sim.specs.Texts.{AppendsText, held}
use Rattle.group_sim.specs.Groups.{learned_at, lines_below, place_line}
use Rattle.group_sim.proofs.showing.write_places.Given as goal

abbrev pub invariant-loop-place : goal.invariant-loop-place
invariant-loop-place g l =
    let known = held g.W.ByteWriter.contents g.W.ByteWriter.write_faults in
    AppendsText (known l.fn.writer) (known l.writer) (lines_below (λ place. place_line place (learned_at l.world l.size place)) l.place)
