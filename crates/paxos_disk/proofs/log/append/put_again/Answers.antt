use Rattle.std.proofs.Common.{append_assoc, add-one, arith, length-append}
use Rattle.paxos_disk.specs.declared.record.version.Version.TheVariants.{Two}
use Rattle.paxos_msg.specs.declared.record.Change.TheVariants.{Promise}
use Rattle.paxos_disk.specs.Entries.{entries_bytes, entry_bytes}
use Rattle.paxos_disk.specs.Padding.{again}
use Rattle.paxos_disk.proofs.LogGrowth.{again_more}
use Rattle.paxos_disk.proofs.log.append.put_again.Goals as goal

pub loop-time-preserved : goal.loop-time-preserved
loop-time-preserved c =
    let n = c.loop-time.time in
    let so_far = entries_bytes Two (again c.args.ballot n) in
    let one = entry_bytes Two (Promise c.args.ballot) in
    rw (add-one n, again_more c.args.ballot n)
    (grind (arith, append_assoc c.args.out.now.items so_far one, length-append so_far one, c.put_entry.ensures, c.loop-time.invariant))
