use Rattle.std.proofs.Common.{◌≡◌, false}
use Rattle.pcode_ops.proofs.listing.write_procedure.Given as goal

abbrev pub invariant-loop-at : goal.invariant-loop-at
invariant-loop-at g l = g.W.TextWriter.has_failed l.writer ≡ false
