use Rattle.pcode_ops.proofs.Searching.{started_next}
use Rattle.pcode_ops.proofs.walk.mark_starts.Goals as goal

pub loop-part-preserved : goal.loop-part-preserved
loop-part-preserved c =
    started_next _ _ _ (record { number = 0; level = 0; enter = 0; exit = 0; jtab = 0; low = 0; params = 0; vars = 0 })
    _ _ _ c.parts-part-items.ensures.value c.loop-part-test.true c.loop-part.invariant c.mark.ensures
    c.mark-in-loop-part.ensures
