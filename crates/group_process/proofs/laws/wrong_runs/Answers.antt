use Rattle.group_process.proofs.WrongRuns.{beside_one, older_record, right}
use Rattle.group_process.proofs.laws.wrong_runs.Goals as goal

pub returns : goal.returns
returns c = record { right = right; older_record = older_record; beside_one = beside_one }
