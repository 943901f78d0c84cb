use Rattle.std.proofs.Common.{inr}
use Rattle.paxos_disk.proofs.DiskCalls.{seen_is_left}
use Rattle.paxos_disk.proofs.store.record_file.put_synced.Goals as goal

pub returns-in-Some-clause-seen : goal.returns-in-Some-clause-seen
returns-in-Some-clause-seen g c = λ h.
    inr (rw (c.in-Some.is, ← c.as_slice-bytes.ensures.value) (c.append_synced.ensures.left h _
    (seen_is_left (g.D.Disk.folder c.append_synced.new.disk))))
