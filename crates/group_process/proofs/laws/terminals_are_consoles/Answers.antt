use Rattle.group_process.proofs.TerminalsShow.{terminals_are, terminals_show, terminals_show_last}
use Rattle.group_process.proofs.laws.terminals_are_consoles.Goals as goal

pub returns : goal.returns
returns c = record { shows = terminals_show; last = terminals_show_last; whole = terminals_are }
