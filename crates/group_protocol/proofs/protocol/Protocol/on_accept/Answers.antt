use Rattle.group_protocol.proofs.protocol.Protocol.on_accept.Goals as goal

pub put-requires-clause-body : goal.put-requires-clause-body
put-requires-clause-body g c =
    let r = rw (← c.self.view_is) at c.requires in
    rw c.in-Ok.ensures.answers.says (c.votes_fit.ensures.says _ _ _ _ _ _ c.self.invariant.1.ranges.kept r.ballot r.place r.value)
