use Rattle.std.proofs.Common.{arith}
use Rattle.group_protocol.proofs.protocol.Protocol.respond.Goals as goal

pub returns-in-Submit-clause-needs : goal.returns-in-Submit-clause-needs
returns-in-Submit-clause-needs g c = grind (arith, c.on_submit.ensures.needs c.args.view.now.sender)

pub returns-in-Tell-clause-needs : goal.returns-in-Tell-clause-needs
returns-in-Tell-clause-needs g c = grind (arith, c.on_tell.ensures.needs c.args.view.now.sender)
