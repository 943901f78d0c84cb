use Rattle.std.proofs.Common.{◌/◌, arith, pos, negsuc}
use Rattle.std.proofs.lemmas.Bool.Decides.{nat_tests}
use Rattle.std.proofs.lemmas.Grind.{elements}
use Rattle.pcode_frames.proofs.laws.bytes_are_apart.Goals as goal

pub returns-clause-live : goal.returns-clause-live
returns-clause-live c live (pos a) some = (a / 2, grind (arith, nat_tests), grind (arith, nat_tests))
returns-clause-live c live (negsuc n) some = grind arith

pub returns-clause-got : goal.returns-clause-got
returns-clause-got c = grind (arith, nat_tests, elements)

pub returns-clause-others : goal.returns-clause-others
returns-clause-others c = grind (arith, nat_tests, elements)
