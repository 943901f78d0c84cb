use Rattle.std.proofs.Common.{◌≡◌, ◌∙◌, length, refl, arith, rules}
use Rattle.group_sim.proofs.Lines.{answers, line_done, line_halts}
use Rattle.group_sim.proofs.simulation.sim.Goals as goal

pub loop-line-preserved : goal.loop-line-preserved
loop-line-preserved g c =
    let v = c.deref-line-items.ensures.value in
    record {
      number = omega arith;
      size = c.in_default.ensures.size ∙ c.loop-line.invariant.size;
      done =
          line_done _ _ c.loop-line.number _ _ _ _ _ c.loop-line.invariant.number (rw v at c.loop-line-test.true)
          c.loop-line.invariant.done (rw (v, c.loop-line.invariant.size) at c.in_default.ensures.says);
    }

pub returns-clause-performs : goal.returns-clause-performs
returns-clause-performs g c =
    let all : c.loop-line.line-index ≡ length c.args.script.now.lines.items = rw (← c.deref-line-items.ensures.value) (omega arith) in
    record { done = λ _. record { end = _; done = rw all at c.loop-line.invariant.done; written = refl }; halted = tt; unwritten = tt }

pub returns-in-Err-perform : goal.returns-in-Err-perform
returns-in-Err-perform g c =
    let v = c.deref-line-items.ensures.value in
    let halted = line_halts _ _ _ c.loop-line.number _ _ _ c.in-Err-perform.halt _ c.loop-line.invariant.number
    (rw v at c.loop-line-test.true) c.loop-line.invariant.done (rw (v, c.loop-line.invariant.size) at c.in-Err-perform.ensures.says) in
    record {
      line = search rules;
      write = search rules;
      performs = answers _ _ _ c.halted_at-in-Err-perform.ensures halted;
      size = search rules;
    }
