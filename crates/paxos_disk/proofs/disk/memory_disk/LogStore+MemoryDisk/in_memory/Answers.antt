use Rattle.paxos_disk.proofs.Restarts.{nothing_good}
use Rattle.paxos_disk.proofs.disk.memory_disk.LogStore+MemoryDisk.in_memory.Goals as goal

pub new-requires : goal.new-requires
new-requires c = λ _. nothing_good c.args.me _ c.empty.ensures
