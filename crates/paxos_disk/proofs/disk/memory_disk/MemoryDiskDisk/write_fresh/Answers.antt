use Rattle.std.proofs.Common.{refl}
use Rattle.paxos_disk.specs.MemoryDisks.{file_state_if}
use Rattle.paxos_disk.proofs.DiskCalls.{on_err}
use Rattle.paxos_disk.proofs.disk.memory_disk.MemoryDiskDisk.write_fresh.Goals as goal

pub returns-clause-err : goal.returns-clause-err
returns-clause-err c = λ _. on_err c.counted.result _ (file_state_if c.write_anew-done.new.file, refl)
