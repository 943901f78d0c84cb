use Rattle.std.proofs.Common.{◌∙◌, arith, refl}
use Rattle.node_run.proofs.Cycling.{heard_more, heard_none, heard_last}
use Rattle.node_run.proofs.Course.{gift_both, gift_none}
use Rattle.node_run.proofs.rest.rest.Goals as goal

pub loop-init : goal.loop-init
loop-init g c = record {
  works = c.requires.works;
  hears = rw c.begin_rest.ensures.passed (heard_none c.deeds_go_on.ensures _ _);
  looks = gift_none _;
  retries = refl;
  output = record { stays = refl; progress = refl };
}

pub loop-preserved : goal.loop-preserved
loop-preserved g c = record {
  works = grind arith;
  hears = heard_more c.deeds_go_on.ensures c.loop.invariant.hears c.in-Ok-false.ensures.hears c.in-Ok-false.ensures.rests;
  looks = gift_both c.loop.invariant.looks c.in-Ok-false.ensures.looks;
  retries = grind arith;
  output = record {
    stays = c.in-Ok-false.ensures.output.stays ∙ c.loop.invariant.output.stays;
    progress = c.in-Ok-false.ensures.output.progress ∙ c.loop.invariant.output.progress;
  };
}

pub returns-in-Ok-true-clause-hears : goal.returns-in-Ok-true-clause-hears
returns-in-Ok-true-clause-hears g c =
    heard_more c.deeds_go_on.ensures c.loop.invariant.hears c.in-Ok-true.ensures.hears c.in-Ok-true.ensures.rests

pub returns-in-Ok-true-clause-looks : goal.returns-in-Ok-true-clause-looks
returns-in-Ok-true-clause-looks g c = gift_both c.loop.invariant.looks c.in-Ok-true.ensures.looks

pub returns-in-Err-clause-hears : goal.returns-in-Err-clause-hears
returns-in-Err-clause-hears g c = heard_last c.loop.invariant.hears c.in-Err.ensures.hears c.in-Err.ensures.rests

pub returns-in-Err-clause-looks : goal.returns-in-Err-clause-looks
returns-in-Err-clause-looks g c = gift_both c.loop.invariant.looks c.in-Err.ensures.looks
