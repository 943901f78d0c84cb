use Rattle.std.proofs.Common.{length}
use Rattle.paxos_disk.specs.Log.{IsUncut}
use Rattle.paxos_acceptor.specs.Records.{IsRecord}
use Rattle.paxos_disk.proofs.log.shortening.missing_entries.Given as goal

abbrev pub invariant-loop-change : goal.invariant-loop-change
invariant-loop-change l = record {
  ranges : IsRecord l.me.group.size l.made;
  log : IsUncut l.me l.log.items l.made;
}

abbrev pub decreases-loop-change : goal.decreases-loop-change
decreases-loop-change l = length l.rest
