use Rattle.group_disk.proofs.RunsWrite.{run_writes}
use Rattle.group_disk.proofs.laws.runs_write.Goals as goal

pub returns : goal.returns
returns g c = run_writes g.S.Store.kind
