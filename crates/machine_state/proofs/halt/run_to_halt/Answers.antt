use Rattle.std.proofs.Common.{◌≡◌, ◌+◌, ◌-◌, ◌<◌, ◌≤◌, ◌∙◌, suc, length, refl, sym, ap, arith, rules}
use Rattle.std.specs.Option.{option_to_list}
use Rattle.std.proofs.lemmas.Bool.Decides.{nat_tests}
use Rattle.std.proofs.lemmas.Option.{slice_get_past, slice_get_read}
use Rattle.machine_state.proofs.Running.{Laws, ahead_at_start, at_most_one, ended, none_counts, one_counts, quiet_on, spent, take_on, waits, write_on}
use Rattle.machine_state.proofs.halt.run_to_halt.Goals.{then-is_some, else-is_some}
use Rattle.machine_state.proofs.halt.run_to_halt.Goals as goal

pub loop-left-init : goal.loop-left-init
loop-left-init c =
    let none : c.args.steps - c.args.steps ≡ 0 = omega arith in
    record {
      program = search rules;
      run = rw (none, c.requires) (ahead_at_start _ _);
      few = omega arith;
      short = omega arith;
      little = omega arith;
    }

pub loop-left-preserved-in-Wrote : goal.loop-left-preserved-in-Wrote
loop-left-preserved-in-Wrote c =
    let laws : Laws = search rules in
    let run = c.loop-left.invariant.run in
    let (mid, k, made, few, quiet, writes) = rw (c.in-Wrote.is, c.loop-left.invariant.program) at c.run-made.ensures.pauses in
    let more : c.args.steps - (c.loop-left.left - c.run-made.result.0) ≡ suc (c.args.steps - c.loop-left.left + k) = omega arith in
    record {
      program = c.run-made.ensures.program ∙ c.loop-left.invariant.program;
      run = rw more (write_on {s = mid} laws (quiet_on laws run {t = mid} k quiet) c.in-Wrote.field-0 writes);
      few = omega arith;
      short = c.loop-left.invariant.short;
      little = omega arith;
    }

pub loop-left-preserved : goal.loop-left-preserved
loop-left-preserved c =
    let laws : Laws = search rules in
    let run = c.loop-left.invariant.run in
    let counted : c.if-is_some.wrote ≡ c.loop-left.wrote + length (option_to_list c.take.result) =
    elim c.if-is_some.branch [
      | then-is_some w ↦ w.wrote-is ∙ ap (λ n. c.loop-left.wrote + n) (sym (one_counts _ (sym w.if-is_some.ensures)))
      | else-is_some w ↦ grind (arith, none_counts c.take.result (sym w.if-is_some.ensures), w.wrote-is)
    ] in
    let (few, quiet, wants) = rw (c.in-Wants.is, c.loop-left.invariant.program) at c.run-made.ensures.pauses in
    let within : c.loop-left.read < length c.args.input.now = (let test = c.in-Some.ensures.lookup.0 in grind (arith, nat_tests)) in
    let there = slice_get_read c.args.input.now _ c.loop-left.read c.in-Some.byte.now refl within c.in-Some.ensures.lookup.1 in
    let makes = rw (c.run-made.ensures.program ∙ c.loop-left.invariant.program) at c.take.ensures.takes in
    let more : c.args.steps - (c.loop-left.left - c.run-made.result.0 - 1)
    ≡ suc (c.args.steps - c.loop-left.left + c.run-made.result.0) = omega arith in
    record {
      program = c.take.ensures.program ∙ c.run-made.ensures.program ∙ c.loop-left.invariant.program;
      run = rw (more, counted) (take_on laws (quiet_on laws run _ quiet) c.in-Some.byte.now c.take.result there makes);
      few = omega arith;
      short = omega arith;
      little = grind (arith, counted, at_most_one c.take.result);
    }

pub returns-in-Spent-clause-spent : goal.returns-in-Spent-clause-spent
returns-in-Spent-clause-spent c none =
    let laws : Laws = search rules in
    let (all, quiet) = rw (c.in-Spent.is, c.loop-left.invariant.program) at c.run-made.ensures.pauses in
    spent laws (quiet_on laws c.loop-left.invariant.run _ quiet) (omega arith)

pub returns-in-Ended-clause-halted : goal.returns-in-Ended-clause-halted
returns-in-Ended-clause-halted c =
    let laws : Laws = search rules in
    let (few, quiet, last) = rw (c.in-Ended.is, c.loop-left.invariant.program) at c.run-made.ensures.pauses in
    let run = quiet_on laws c.loop-left.invariant.run _ quiet in
    record { output = run.output; halts = ended laws run _ (omega arith) last; wrote = run.given }

pub returns-in-None-clause-halted : goal.returns-in-None-clause-halted
returns-in-None-clause-halted c =
    let laws : Laws = search rules in
    let (few, quiet, wants) = rw (c.in-Wants.is, c.loop-left.invariant.program) at c.run-made.ensures.pauses in
    let run = quiet_on laws c.loop-left.invariant.run _ quiet in
    let past : length c.args.input.now ≤ c.loop-left.read = (let test = c.in-None.ensures.lookup.0 in grind (arith, nat_tests)) in
    let none = slice_get_past c.args.input.now c.loop-left.read past in
    record { output = run.output; halts = waits laws run (omega arith) none wants; wrote = run.given }

pub returns-clause-spent : goal.returns-clause-spent
returns-clause-spent c none =
    let laws : Laws = search rules in
    spent laws c.loop-left.invariant.run (omega arith)
