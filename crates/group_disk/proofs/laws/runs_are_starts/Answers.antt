use Rattle.group_disk.proofs.DiskRuns.{refused_starts, run_starts}
use Rattle.group_disk.proofs.laws.runs_are_starts.Goals as goal

pub returns : goal.returns
returns g c = record {
  runs = λ p me store end plan from to before after result h is_changed rest is_honest.
      run_starts g.D.Disk.honest g.D.Disk.folder is_honest p me store end plan from to before after result h is_changed rest;
  refused = λ p me store refused rest is_honest starts.
      refused_starts g.D.Disk.honest g.D.Disk.folder is_honest p me store refused rest starts;
}
