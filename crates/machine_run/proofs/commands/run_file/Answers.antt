use Rattle.std.proofs.Common.{inr}
use Rattle.machine_run.proofs.commands.run_file.Goals as goal

pub returns : goal.returns
returns g c = record { runs = inr (c.in_ok-program.program, c.in_ok-program.ensures.ok, c.run_loaded.ensures.runs) }
