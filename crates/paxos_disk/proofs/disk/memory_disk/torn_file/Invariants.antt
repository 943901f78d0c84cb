use Rattle.std.proofs.Common.{◌≡◌, ◌++◌, ◌≤◌, drop, length}
use Rattle.paxos_disk.specs.MemoryDisks.{lost_from}
use Rattle.paxos_disk.specs.Sectors.{torn}
use Rattle.paxos_disk.proofs.disk.memory_disk.torn_file.Given as goal

-- the bytes so far, and those that are left, are what a crash leaves
abbrev pub invariant-loop-byte : goal.invariant-loop-byte
invariant-loop-byte l = record {
  whole : l.bytes.items ++ torn (lost_from (length l.fn.file.kept.items) l.fn.lost) (length l.bytes.items) (drop l.byte-index l.byte-items)
      ≡ l.fn.file.kept.items ++ torn (lost_from (length l.fn.file.kept.items) l.fn.lost) (length l.fn.file.kept.items) l.byte-items;
  more : length l.fn.file.kept.items ≤ length l.bytes.items;
}
