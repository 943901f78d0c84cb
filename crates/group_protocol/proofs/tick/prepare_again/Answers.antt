use Rattle.std.proofs.Common.{◌+◌, arith}
use Rattle.group_protocol.proofs.Places.{more_put}
use Rattle.group_protocol.proofs.tick.prepare_again.Goals as goal

pub loop-before-preserved : goal.loop-before-preserved
loop-before-preserved c =
    let next = c.loop-before.before + 1 in
    let put = more_put next next c.loop-before.invariant.put (omega arith) (omega arith) c.ask_again.ensures.packets in
    grind (arith, put, c.loop-before.invariant)
