use Rattle.std.proofs.Common.{inl, inr, refl}
use Rattle.std.proofs.lemmas.Result.{err_from_is_err_and}
use Rattle.node_run.specs.Cycles.{run_moment}
use Rattle.node_run.proofs.cycles.campaign_and_play.Goals as goal

pub returns-in_err-campaign_if-clause-run : goal.returns-in_err-campaign_if-clause-run
returns-in_err-campaign_if-clause-run g c =
    let p = err_from_is_err_and c.from_residual.result c.from_residual.ensures.1 in
    rw (p.1, p.2) (inl (
      _,
      refl,
      record {
        did = c.in_err-campaign_if.ensures.acts;
        why = c.in_err-campaign_if.ensures.others;
        unmoved = c.in_err-campaign_if.ensures.output.progress;
        stays = c.in_err-campaign_if.ensures.output.stays;
        untyped = refl;
        retries = refl;
        unwritten = refl;
      },
    ))

pub returns-clause-run : goal.returns-clause-run
returns-clause-run g c = inr (
  run_moment _ _ _,
  record {
    did = c.in_ok-campaign_if.ensures.acts;
    why = tt;
    unmoved = c.in_ok-campaign_if.ensures.output.progress;
    stays = c.in_ok-campaign_if.ensures.output.stays;
    untyped = refl;
    retries = refl;
    unwritten = refl;
  },
  c.play.ensures.cycles,
)
