use Rattle.std.proofs.Common.{arith}
use Rattle.paxos_disk.proofs.LogGrowth.{again_long}
use Rattle.paxos_disk.proofs.log.append.append_behind.Goals as goal

pub put_entry-requires : goal.put_entry-requires
put_entry-requires c = grind (arith, again_long c.args.promised c.promises_before-times.result)
