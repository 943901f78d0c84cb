use Rattle.std.proofs.Common.{◌∙◌, refl, arith}
use Rattle.node_run.proofs.Releasing.{takes_all, takes_more, takes_none}
use Rattle.node_run.proofs.release.release_unseen.Goals as goal

pub loop-number-init : goal.loop-number-init
loop-number-init g c = record { takes = rw c.new-unseen.ensures (takes_none _ _); acts = c.deeds_go_on.ensures.none _; passed = refl }

-- a byte that was not seen
pub loop-number-preserved-then-number-seen : goal.loop-number-preserved-then-number-seen
loop-number-preserved-then-number-seen g c = record {
  takes = takes_more _ c.in-Some.number c.in-Some.byte _ _ _ c.loop-number.invariant.takes c.in-Some.ensures.value
      c.in-Some.ensures.some c.in-Some.ensures.protocol (λ unseen. c.push.ensures.items)
      (λ seen. absurd (omega (arith, seen, c.if-number-seen.true)));
  acts = λ passed. c.deeds_go_on.ensures.more _ _ _ _ _ _ _ _ (c.loop-number.invariant.acts passed) (c.in-Some.ensures.acts passed);
  passed = c.trace.ensures.passed ∙ c.loop-number.invariant.passed;
}

-- and one that was
pub loop-number-preserved : goal.loop-number-preserved
loop-number-preserved g c = record {
  takes = takes_more _ c.in-Some.number c.in-Some.byte _ _ _ c.loop-number.invariant.takes c.in-Some.ensures.value
      c.in-Some.ensures.some c.in-Some.ensures.protocol (λ unseen. absurd (omega (arith, unseen, c.if-number-seen.false))) (λ seen. refl);
  acts = λ passed. c.deeds_go_on.ensures.more _ _ _ _ _ _ _ _ (c.loop-number.invariant.acts passed) (c.in-Some.ensures.acts passed);
  passed = c.trace.ensures.passed ∙ c.loop-number.invariant.passed;
}

pub returns-clause-progress : goal.returns-clause-progress
returns-clause-progress g c =
    rw c.in_default.ensures.none (takes_all _ _ _ c.loop-number.invariant.takes c.in_default.ensures.value).0

pub returns-clause-unseen : goal.returns-clause-unseen
returns-clause-unseen g c = (takes_all _ _ _ c.loop-number.invariant.takes c.in_default.ensures.value).1

pub returns-clause-acts : goal.returns-clause-acts
returns-clause-acts g c passed =
    c.deeds_go_on.ensures.more _ _ _ _ _ _ _ _ (c.loop-number.invariant.acts passed) (c.in_default.ensures.acts passed)
