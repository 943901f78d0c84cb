use Rattle.std.proofs.Common.{◌≡◌, ◌+◌, Err, arith, rules}
use Rattle.group_sim.proofs.Lines.{halts_at}
use Rattle.group_sim.proofs.simulation.Simulation.release_all.Goals as goal

pub returns-in_err-happen_kept-clause-releases : goal.returns-in_err-happen_kept-clause-releases
returns-in_err-happen_kept-clause-releases g c =
    let failed : c.from_residual.result ≡ Err c.in_err-happen_kept.field-0.0 = search rules in
    rw failed (
      0 + c.loop.counter,
      omega (arith, c.unreleased-unreleased.ensures),
      halts_at _ _ _ _ _ _ _ c.loop.invariant.done c.in_err-happen_kept.ensures.happens,
    )
