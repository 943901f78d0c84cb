use Rattle.std.proofs.Common.{append_assoc}
use Rattle.machine_state.specs.Text.{ended_line}
use Rattle.machine_state.proofs.text.push_ended.Goals as goal

pub returns-in-Error : goal.returns-in-Error
unfolding ended_line
returns-in-Error c = rw c.in-Error.is (simp append_assoc c.writeln.ensures.bytes)
