use Rattle.std.proofs.Common.{◌-◌, arith}
use Rattle.std.proofs.lemmas.Bool.Decides.{nat_tests}
use Rattle.pcode_file.proofs.file.CodeFile.procedure.Goals as goal

pub returns-clause-part : goal.returns-clause-part
returns-clause-part c = grind (arith, nat_tests, c.self.invariant.procs.each (c.args.i - 1))
