use Rattle.std.proofs.Common.{sym}
use Rattle.pcode_ops.proofs.Allowed.{may_stand}
use Rattle.pcode_ops.proofs.laws.reached_may_stand.Goals as goal

pub returns : goal.returns
returns c = λ p i q instr next procs loadable reach own at. may_stand p i q (instr, next) procs own (sym at) reach (loadable i reach)
