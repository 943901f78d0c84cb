use Rattle.paxos_disk.proofs.DiskCalls.{last_call, maybe_put}
use Rattle.paxos_disk.proofs.store.record_file.replace_synced.Goals as goal

pub returns-in_err-put_fresh-clause-left : goal.returns-in_err-put_fresh-clause-left
returns-in_err-put_fresh-clause-left g c = λ h.
    maybe_put (g.D.Disk.folder c.args.disk.now) _ _ _ (c.in_ok-write_fresh.ensures.ok h) (c.in_ok-sync_fresh.ensures.ok h) _
    (c.in_err-put_fresh.ensures.err h)

pub returns-clause-left : goal.returns-clause-left
returns-clause-left g c = λ h.
    last_call (g.D.Disk.folder c.args.disk.now) _ _ _ (c.in_ok-write_fresh.ensures.ok h) (c.in_ok-sync_fresh.ensures.ok h)
    c.sync_folder.result _ _ (c.in_ok-put_fresh.ensures.ok h) (c.sync_folder.ensures.ok h) (c.sync_folder.ensures.err h)
