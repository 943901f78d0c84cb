use Rattle.std.proofs.Common.{arith}
use Rattle.machine_run.proofs.commands.run_loaded.Goals as goal

pub returns-in-Ok : goal.returns-in-Ok
returns-in-Ok g c = record { runs = (c.run_program.result, c.run_program.ensures, grind arith) }

pub returns-in-Err : goal.returns-in-Err
returns-in-Err g c = record { runs = (c.run_program.result, c.run_program.ensures, grind arith) }
