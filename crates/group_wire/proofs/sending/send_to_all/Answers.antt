use Rattle.group_wire.proofs.Carrying.{next_letter}
use Rattle.group_wire.proofs.sending.send_to_all.Goals as goal

pub loop-node-preserved : goal.loop-node-preserved
loop-node-preserved g c =
    next_letter _ _ _ c.args.bytes.now c.args.size c.loop-node.node c.loop-node-test.true c.send.ensures.handed c.loop-node.invariant
