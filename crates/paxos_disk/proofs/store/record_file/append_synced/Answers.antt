use Rattle.std.proofs.Common.{List, ℕ, arith}
use Rattle.std.proofs.lemmas.Bool.Decides.{nat_tests}
use Rattle.paxos_disk.specs.Disks.{IsOnDisk}
use Rattle.paxos_disk.proofs.DiskCalls.{grown}
use Rattle.paxos_disk.proofs.store.record_file.append_synced.Goals as goal

pub returns-clause-left : goal.returns-clause-left
returns-clause-left g c = λ h.
    let all : (all : List ℕ) × IsOnDisk (g.D.Disk.folder c.args.disk.now) all = grind (arith, nat_tests, c.requires h) in
    grown _ all.0 all.1 _ _ (c.in_ok-append.ensures.ok h) c.sync.result _ (c.sync.ensures.ok h) (c.sync.ensures.err h)
