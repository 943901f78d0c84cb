use Rattle.paxos_disk.proofs.LogGrowth.{short_entry}
use Rattle.paxos_disk.proofs.log.append.entries_are_short.Goals as goal

pub returns : goal.returns
returns c = short_entry
