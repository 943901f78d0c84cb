use Rattle.group_process.proofs.TerminalsShow.{leaves_out, repeats}
use Rattle.group_process.proofs.laws.wrong_seen.Goals as goal

pub returns : goal.returns
returns c = record { repeats = repeats; leaves_out = leaves_out }
