use Rattle.std.proofs.Common.{arith}
use Rattle.pcode_ops.proofs.Marking.{flagged_within}
use Rattle.pcode_ops.proofs.walk.Walk.len.Goals as goal

pub returns-clause-fits : goal.returns-clause-fits
returns-clause-fits c =
    rw (← c.self.view_is) (omega (arith, c.self.invariant.listing.count, flagged_within))
