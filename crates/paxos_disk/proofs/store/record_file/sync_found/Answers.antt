use Rattle.paxos_disk.proofs.DiskCalls.{sync_remains}
use Rattle.paxos_disk.proofs.store.record_file.sync_found.Goals as goal

pub returns-clause-remains : goal.returns-clause-remains
returns-clause-remains g c = λ h.
    sync_remains c.sync_folder.result _ _ _ (c.in_ok-sync.ensures.ok h) (c.sync_folder.ensures.ok h) (c.sync_folder.ensures.err h)
