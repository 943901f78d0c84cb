use Rattle.std.proofs.Common.{arith}
use Rattle.group_protocol.proofs.protocol.Protocol.drop_read.Goals as goal

pub invariant_of-self : goal.invariant_of-self
invariant_of-self g c =
    let i = c.self.invariant in
    let fits = c.responses_fit.ensures.gone _ i.1.ranges in
    grind (arith, i, c.leave_read.ensures, c.record.ensures.same, fits)
