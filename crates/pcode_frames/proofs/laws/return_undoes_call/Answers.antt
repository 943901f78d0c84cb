use Rattle.std.proofs.Common.{arith}
use Rattle.std.proofs.lemmas.List.{drop_at, get_or_push, length-append, length_push, length-replicate, length-take-le}
use Rattle.std.proofs.lemmas.Option.{slice_get_cases}
use Rattle.pcode_frames.proofs.laws.return_undoes_call.Goals as goal

pub returns-clause-stack : goal.returns-clause-stack
returns-clause-stack c = grind (arith, length_push, get_or_push, slice_get_cases, drop_at)

pub returns-clause-frame : goal.returns-clause-frame
returns-clause-frame c = grind (arith, length_push, get_or_push, slice_get_cases)

pub returns-clause-few : goal.returns-clause-few
returns-clause-few c = grind (arith, get_or_push, slice_get_cases, length-append, length-take-le, length-replicate)
