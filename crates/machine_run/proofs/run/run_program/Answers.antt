use Rattle.std.proofs.Common.{◌≡◌, ◌+◌, ◌-◌, ◌∙◌, arith, rules}
use Rattle.std.proofs.lemmas.Result.{err_from_is_err_and}
use Rattle.machine_run.specs.declared.run.Finish.TheVariants.{Steps}
use Rattle.machine_run.proofs.Running.{Laws, Reached-start, done, next_stretch, last_stretch, failed_stretch}
use Rattle.machine_run.proofs.run.run_program.Goals as goal

pub loop-left-init : goal.loop-left-init
loop-left-init g c =
    let none : c.args.steps - c.args.steps ≡ 0 = omega arith in
    record { program = c.in-Ok.ensures.program; run = rw (none, c.in-Ok.ensures.start) (Reached-start _ _); few = omega arith }

pub loop-left-preserved : goal.loop-left-preserved
loop-left-preserved g c =
    let laws : Laws = search rules in
    let stretch = rw (c.in_default-finish.is, c.loop-left.invariant.program) at c.in_ok-made.ensures.stretch in
    let more : c.args.steps - (c.loop-left.left - c.in_ok-made.made) ≡ c.args.steps - c.loop-left.left + c.in_ok-made.made = omega arith in
    record {
      program = c.stretch.ensures.program ∙ c.loop-left.invariant.program;
      run = rw more (next_stretch laws c.loop-left.invariant.run _ _ _ _ stretch);
      few = omega arith;
    }

pub returns : goal.returns
returns g c =
    let laws : Laws = search rules in
    done laws c.loop-left.invariant.run Steps (omega arith)

pub returns-in-Some : goal.returns-in-Some
returns-in-Some g c =
    let laws : Laws = search rules in
    last_stretch laws c.loop-left.invariant.run _ c.stretch.new.machine.state _ _ c.in-Some.finish
    (rw (c.in-Some.is, c.loop-left.invariant.program) at c.in_ok-made.ensures.stretch) (omega arith)

pub returns-in_err-made : goal.returns-in_err-made
returns-in_err-made g c =
    let laws : Laws = search rules in
    let p = err_from_is_err_and c.from_residual.result c.from_residual.ensures.1 in
    rw (p.1, p.2)
    (failed_stretch laws c.loop-left.invariant.run _ c.stretch.new.machine.state c.loop-left.left c.in_err-made.field-0.0
    c.loop-left.invariant.program c.in_err-made.ensures.stretch (omega arith))
