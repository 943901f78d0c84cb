use Rattle.std.proofs.Common.{sym}
use Rattle.group_protocol.proofs.tick.accept_again.Goals as goal

pub put-requires-clause-body : goal.put-requires-clause-body
put-requires-clause-body c =
    rw c.ballot-ballot.ensures
    (c.packets_fit.ensures.accept c.args.me c.args.proposer.now.known c.args.place c.in-Some.value c.requires.own
    (sym c.in-Some.ensures))
