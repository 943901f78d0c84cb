use Rattle.std.proofs.Common.{refl}
use Rattle.group_process.proofs.WrongRuns.{left_out, other, right_bytes, twice}
use Rattle.group_process.proofs.laws.wrong_terminals.Goals as goal

pub returns : goal.returns
returns c = record { right = right_bytes; shown = λ byte. refl; twice = twice; other = other; left_out = left_out }
