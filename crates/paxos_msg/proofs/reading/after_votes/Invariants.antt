use Rattle.std.proofs.Common.{◌-◌}
use Rattle.paxos_msg.proofs.VotesLeft.{LeadsTo}
use Rattle.paxos_msg.proofs.reading.after_votes.Given as goal

abbrev pub invariant-loop : goal.invariant-loop
invariant-loop l = LeadsTo l.part.size l.part.ballot l.part.first l.part.upto l.count l.bytes l.low (l.count - l.counter) l.rest
