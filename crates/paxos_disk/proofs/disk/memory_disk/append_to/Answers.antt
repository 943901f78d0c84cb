use Rattle.std.proofs.Common.{take, drop, refl, sym, take-append-drop}
use Rattle.paxos_disk.proofs.disk.memory_disk.append_to.Goals as goal

pub returns-in_default-fate : goal.returns-in_default-fate
returns-in_default-fate c =
    let n = c.match-fate.count in
    let bytes = c.args.bytes.now in
    record { ok = tt; short = tt; err = (take n bytes, drop n bytes, sym (take-append-drop n bytes), rw c.in-Ok.ensures.items refl) }
