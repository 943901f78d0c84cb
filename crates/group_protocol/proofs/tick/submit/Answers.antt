use Rattle.group_protocol.proofs.tick.submit.Goals as goal

pub put-requires-clause-body : goal.put-requires-clause-body
put-requires-clause-body c = c.requires.batch c.in-Some.key c.in-Some.is
