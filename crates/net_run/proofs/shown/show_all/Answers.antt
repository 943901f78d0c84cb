use Rattle.std.proofs.Common.{arith}
use Rattle.std.proofs.lemmas.Grind.{common_steps}
use Rattle.net_run.proofs.shown.show_all.Goals as goal

pub loop-preserved : goal.loop-preserved
loop-preserved g c =
    let before = c.loop.invariant.first in
    let next = c.in_ok-show_next.ensures.one in
    record {
      first = record { progress = grind (arith, common_steps); protocol = grind (arith, common_steps) };
      shows = c.in_ok-show_next.ensures.shows;
      acts = λ passed. c.deeds_go_on.ensures.more _ _ _ _ _ _ _ _ (c.loop.invariant.acts passed) (c.in_ok-show_next.ensures.acts passed);
    }

pub returns-in_err-show_next-clause-acts : goal.returns-in_err-show_next-clause-acts
returns-in_err-show_next-clause-acts g c passed =
    c.deeds_go_on.ensures.more _ _ _ _ _ _ _ _ (c.loop.invariant.acts passed) (c.in_err-show_next.ensures.acts passed)

pub returns-clause-acts : goal.returns-clause-acts
returns-clause-acts g c passed = c.loop.invariant.acts passed
