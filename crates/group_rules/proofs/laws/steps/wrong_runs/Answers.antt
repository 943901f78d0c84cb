use Rattle.std.proofs.Common.{◌≡◌, ℕ, List, [], ◌∷◌, Some, None, ap, arith}
use Rattle.std.specs.FinMap.{empty, get-empty}
use Rattle.std.specs.Ordering.{nat_cmp}
use Rattle.pcode_machine.specs.Configuration.{Configuration, configuration_of, unframed}
use Rattle.pcode_machine.specs.Step.{Step}
use Rattle.paxos_msg.specs.declared.value.Value.{Value}
use Rattle.paxos_learner.proofs.OnePlace.{get_here}
use Rattle.paxos_learner.specs.Input.{learned_input}
use Rattle.group_rules.specs.WrongSteps.{batch_40, no_code, up_written}
use Rattle.group_rules.proofs.RunSteps.{run_moves, stuck}
use Rattle.group_rules.proofs.laws.steps.wrong_runs.Goals as goal

-- without a frame there is no step
no_frame : (x : List ℕ) (d : Configuration) → ¬ Step no_code x (configuration_of (unframed 0) 0 []) d
no_frame x d (f, there, acts) = let none : None ≡ Some f = there in cc

pub returns-clause-learns : goal.returns-clause-learns
returns-clause-learns c h = grind (arith, get-empty {X = Value} nat_cmp 700, get_here empty 700 (batch_40 65))

pub returns-clause-writes : goal.returns-clause-writes
returns-clause-writes c h =
    let (made, few, moves) = run_moves (up_written [] 0) (up_written (65 ∷ []) 0) 700 h in
    let same = ap (λ (c : Configuration). c.output)
    (stuck (learned_input empty) (configuration_of (unframed 0) 0 []) (no_frame (learned_input empty)) made
    (configuration_of (unframed 0) 0 (65 ∷ [])) moves) in
    cc
