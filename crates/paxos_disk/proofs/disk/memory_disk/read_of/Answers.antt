use Rattle.std.proofs.Common.{◌≡◌, ◌+◌, ◌-◌, length, arith}
use Rattle.std.proofs.Math.Seq.{take-append-add}
use Rattle.paxos_disk.proofs.disk.memory_disk.read_of.Goals as goal

pub returns : goal.returns
returns c =
    let n = length c.args.bytes.now in
    let kept = c.args.file.now.kept.items in
    let rest = n - length kept in
    let all : n ≡ length kept + rest = omega arith in
    rw (c.copy_from_slice-2.ensures.after, c.copy_from_slice-3.ensures.after, c.as_slice-kept.ensures.value, c.as_slice-more.ensures.value)
    (grind (arith, take-append-add kept c.args.file.now.more.items rest, all))
