use Rattle.std.proofs.Common.{suc, arith}
use Rattle.pcode_frames.proofs.Links.{one_more_up}
use Rattle.pcode_frames.proofs.laws.links_are_followed.Goals as goal

pub returns-clause-one_more : goal.returns-clause-one_more
returns-clause-one_more c = λ frames n i f e at. grind (arith, one_more_up frames n (suc i) e)

pub returns-clause-main : goal.returns-clause-main
returns-clause-main c = λ frames n. one_more_up frames n 0
