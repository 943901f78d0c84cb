use Rattle.pcode_ops.specs.Walks.{IsStarted}
use Rattle.pcode_ops.proofs.walk.mark_starts.Given as goal

abbrev pub invariant-loop-part : goal.invariant-loop-part
invariant-loop-part l = IsStarted l.file l.part-index l.walk
