use Rattle.std.proofs.Common.{◌∙◌, add-one, refl, arith}
use Rattle.std.proofs.lemmas.Result.{err_from_is_err_and}
use Rattle.node_run.specs.Cycles.{run_moment}
use Rattle.node_run.proofs.cycles.play.Goals as goal

pub loop-init : goal.loop-init
loop-init g c = record { works = c.requires.works; faults = refl; cycles = refl }

pub loop-preserved : goal.loop-preserved
loop-preserved g c = record {
  works = c.in_ok-is_busy.ensures.works;
  faults = c.in_ok-is_busy.ensures.faults.quiet (λ f. absurd cc) ∙ c.loop.invariant.faults;
  cycles = rw add-one (run_moment _ _ _, c.loop.invariant.cycles, c.in_ok-is_busy.ensures.cycle);
}

pub returns-in_err-is_busy-clause-cycles : goal.returns-in_err-is_busy-clause-cycles
returns-in_err-is_busy-clause-cycles g c =
    let p = err_from_is_err_and c.from_residual.result c.from_residual.ensures.1 in
    rw (p.1, p.2) (c.loop.counter, run_moment _ _ _, omega arith, c.loop.invariant.cycles, c.in_err-is_busy.ensures.cycle)
