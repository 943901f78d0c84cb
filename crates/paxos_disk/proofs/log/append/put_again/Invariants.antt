use Rattle.std.proofs.Common.{◌≡◌, ◌*◌, length}
use Rattle.paxos_disk.specs.declared.record.version.Version.TheVariants.{Two}
use Rattle.paxos_disk.specs.Entries.{entries_bytes}
use Rattle.paxos_disk.specs.Padding.{again}
use Rattle.paxos_msg.specs.Spelling.{Puts}
use Rattle.paxos_disk.proofs.log.append.put_again.Given as goal

abbrev pub invariant-loop-time : goal.invariant-loop-time
invariant-loop-time l = record {
  puts : Puts l.fn.out l.out (entries_bytes Two (again l.ballot l.time));
  long : length (entries_bytes Two (again l.ballot l.time)) ≡ 6 * l.time;
}
