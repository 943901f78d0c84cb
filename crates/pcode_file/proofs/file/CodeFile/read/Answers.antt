use Rattle.std.proofs.Common.{arith}
use Rattle.std.proofs.lemmas.Grind.{common_steps}
use Rattle.pcode_file.specs.Checks.{read_from}
use Rattle.pcode_file.proofs.Procedures.{procs_found}
use Rattle.pcode_file.proofs.Results.{first_is, all_length}
use Rattle.pcode_file.proofs.Whole.{read_is}
use Rattle.pcode_file.proofs.file.CodeFile.read.Goals as goal

pub returns-in_err-k-clause-only : goal.returns-in_err-k-clause-only
returns-in_err-k-clause-only c = λ p f. grind (arith, common_steps, (read_is _ p).0 f)

pub returns-in_default-clause-exact : goal.returns-in_default-clause-exact
unfolding read_from
returns-in_default-clause-exact c = grind (arith, common_steps, first_is)

pub invariant_of-result : goal.invariant_of-result
invariant_of-result c = grind (arith, all_length, procs_found _ _ _ c.in_ok-k.ensures.value.counted c.collected.ensures)

pub returns-clause-exact : goal.returns-clause-exact
unfolding read_from
returns-clause-exact c = grind (arith, common_steps)

pub returns-clause-found : goal.returns-clause-found
returns-clause-found c = (read_is _ _).1 (returns-clause-exact c)

pub returns-clause-only : goal.returns-clause-only
returns-clause-only c = λ p f. grind (arith, returns-clause-exact c, (read_is _ p).0 f)
