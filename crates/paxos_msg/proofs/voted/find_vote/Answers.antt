use Rattle.std.proofs.Common.{sym, arith}
use Rattle.paxos_msg.proofs.VotesByPlace.{vote_there, none_there}
use Rattle.paxos_msg.proofs.voted.find_vote.Goals as goal

pub returns-in-Ok : goal.returns-in-Ok
returns-in-Ok c = grind (arith, vote_there)

pub returns-in-Err : goal.returns-in-Err
returns-in-Err c = sym (none_there c.args.votes.now c.args.place _ c.in-Err.ensures.absent)
