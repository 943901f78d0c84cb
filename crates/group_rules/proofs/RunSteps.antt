-- Steps of a run of node 9.
use Rattle.std.proofs.Common.{◌≡◌, ◌≤◌, ℕ, zero, suc, List, subst, arith}
use Rattle.pcode_machine.specs.Configuration.{Configuration}
use Rattle.pcode_machine.specs.Step.{Step}
use Rattle.paxos_learner.specs.Input.{learned_input}
use Rattle.group_node.specs.Deeds as deed
use Rattle.group_rules.specs.Rules.{MakesSteps, Up, WorldStep}
use Rattle.group_rules.specs.WrongSteps.{nine_up, no_code}

-- the steps of a run on the learned input
pub run_moves : (up now : Up) (steps : ℕ) → WorldStep (nine_up up) 9 (deed.Run steps) (nine_up now)
    → (made : ℕ) × (made ≤ steps) × MakesSteps no_code (learned_input up.learned) made up.configuration now.configuration
run_moves up now steps h = grind arith

-- where no step is, steps lead nowhere
pub stuck : (x : List ℕ) (c : Configuration) → ((d : Configuration) → ¬ Step no_code x c d) → (n : ℕ) (d : Configuration)
    → MakesSteps no_code x n c d → d ≡ c
unfolding MakesSteps
stuck x c none zero d h = h
stuck x c none (suc n) d (b, before, last) =
    absurd (none d (subst (λ (b : Configuration). Step no_code x b d) (stuck x c none n b before) last))
