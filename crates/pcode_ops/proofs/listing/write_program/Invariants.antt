use Rattle.std.proofs.Common.{◌≡◌, false}
use Rattle.pcode_ops.proofs.listing.write_program.Given as goal

abbrev pub invariant-loop-part : goal.invariant-loop-part
invariant-loop-part g l = g.W.TextWriter.has_failed l.writer ≡ false
