use Rattle.std.proofs.Common.{◌+◌, ◌-◌, arith}
use Rattle.group_protocol.proofs.Places.{more_put}
use Rattle.group_protocol.proofs.protocol.Protocol.on_ask.Goals as goal

pub loop-place-preserved : goal.loop-place-preserved
loop-place-preserved g c =
    let put =
    more_put c.loop-place.place (c.loop-place.place + 1 - c.args.from) c.loop-place.invariant.put (omega arith)
    (omega arith) c.tell_at.ensures.packets in
    grind (arith, put, c.loop-place.invariant)
