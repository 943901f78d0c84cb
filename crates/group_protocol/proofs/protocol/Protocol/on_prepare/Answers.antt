use Rattle.paxos_msg.specs.Fits.{IsBallot}
use Rattle.group_protocol.proofs.protocol.Protocol.on_prepare.Goals as goal

pub put-requires-clause-body : goal.put-requires-clause-body
put-requires-clause-body g c =
    let ballot : IsBallot c.self.inside.me.group.size c.args.ballot = rw (← c.self.view_is) at c.requires.ballot in
    rw c.in-Ok.ensures.answers.says (c.promises_fit.ensures.says _ _ _ _ _ c.self.invariant.1.ranges.kept ballot c.requires.from)
