use Rattle.std.proofs.Common.{◌≡◌, ℕ, [], Bool, true, false}
use Rattle.pcode_file.specs.Parts.{Parts}
use Rattle.machine_state.specs.Halt.{IsSpent}
use Rattle.machine_frozen.specs.Wakes.{HasWoken}
use Rattle.machine_frozen.proofs.answer.answer_of.Goals as goal

-- a program that has not woken has spent its steps
not_woken : (q : Parts) (steps : ℕ) (woken : Bool) → HasWoken q steps woken → woken ≡ false → IsSpent q [] steps
not_woken q steps true h is = absurd cc
not_woken q steps false h is = h

pub returns-then-not-branch-clause-ok : goal.returns-then-not-branch-clause-ok
returns-then-not-branch-clause-ok c =
    let spent = not_woken _ _ _ c.in_ok-wake.ensures.ok c.if-not-branch.true in
    record {
      last = spent.last;
      made = c.same_run_on_longer_input.ensures c.args.frozen.now [] c.args.input.now c.args.steps spent.last spent.made;
    }
