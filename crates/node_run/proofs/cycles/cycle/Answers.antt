use Rattle.std.proofs.Common.{inl, inr, refl}
use Rattle.std.proofs.lemmas.Result.{err_from_is_err_and}
use Rattle.node_run.specs.Cycles.{run_moment}
use Rattle.node_run.proofs.cycles.cycle.Goals as goal

pub returns-in_err-more-clause-cycle : goal.returns-in_err-more-clause-cycle
returns-in_err-more-clause-cycle g c =
    let p = err_from_is_err_and c.from_residual.result c.from_residual.ensures.1 in
    rw (p.1, p.2) (inl (c.in_err-more.ensures.turns _))

pub returns-in_err-release_all-clause-cycle : goal.returns-in_err-release_all-clause-cycle
returns-in_err-release_all-clause-cycle g c =
    let p = err_from_is_err_and c.from_residual-in_err-release_all.result c.from_residual-in_err-release_all.ensures.1 in
    rw (p.1, p.2) (inr (
      run_moment _ _ _,
      c.in_ok-more.ensures.turns _,
      record {
        did = c.in_err-release_all.ensures.released;
        acts = rw c.in_err-release_all.ensures.passed (c.in_err-release_all.ensures.acts _);
        alone = rw c.in_err-release_all.ensures.passed refl;
      },
    ))

pub returns-clause-cycle : goal.returns-clause-cycle
returns-clause-cycle g c = record {
  mid = run_moment _ _ _;
  turns = c.in_ok-more.ensures.turns _;
  releases = record {
    did = c.in_ok-release_all.ensures.released;
    acts = rw c.in_ok-release_all.ensures.passed (c.in_ok-release_all.ensures.acts _);
    alone = rw c.in_ok-release_all.ensures.passed refl;
  };
}
