use Rattle.std.proofs.Common.{◌≡◌, false}
use Rattle.pcode_ops.proofs.listing.write_entries.Given as goal

abbrev pub invariant-loop-k : goal.invariant-loop-k
invariant-loop-k g l = g.W.TextWriter.has_failed l.writer ≡ false
