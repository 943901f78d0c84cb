use Rattle.group_process.proofs.RunPrefixes.{log_prefix}
use Rattle.group_process.proofs.laws.prefixes_of_runs.Goals as goal

pub returns : goal.returns
returns c = log_prefix
