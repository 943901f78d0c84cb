use Rattle.std.proofs.Common.{◌-◌}
use Rattle.paxos_disk.proofs.VotesV1.{LeadsTo}
use Rattle.paxos_disk.proofs.record.version1.votes_of_v1.Given as goal

abbrev pub invariant-loop : goal.invariant-loop
invariant-loop l = LeadsTo l.group.size l.ballot l.count l.bytes l.votes.items l.low (l.count - l.counter) l.rest
