use Rattle.std.proofs.Common.{◌≤◌, ◌+◌, ◌≡◌, ℕ, zero, suc, List, [], ◌∷◌, refl, ap, arith}
use Rattle.std.proofs.lemmas.Bool.Decides.{nat_tests}
use Rattle.std.specs.Ordering.{nat_cmp}
use Rattle.std.specs.FinMap.{FinMap, empty, insert}
use Rattle.pcode_machine.specs.Configuration.{Configuration}
use Rattle.pcode_machine.specs.Step.{Step}
use Rattle.paxos_msg.specs.declared.value.Value.{Value}
use Rattle.paxos_msg.specs.declared.value.Value.TheVariants.{Keys}
use Rattle.paxos_learner.proofs.OnePlace.{get_here}
use Rattle.paxos_learner.specs.Input.{learned_input}
use Rattle.group_rules.specs.Rules.{MakesSteps}
use Rattle.group_rules.specs.WrongSteps.{batch_40, main_frame, no_code, reads_on, up_reading}
use Rattle.group_protocol.proofs.Elements.{entries_one}
use Rattle.group_rules.proofs.RunSteps.{run_moves, stuck}
use Rattle.group_rules.proofs.laws.steps.wrong_reads.Goals as goal

-- three keys, which are learned at place 0, or one above a hole
abbrev three : FinMap nat_cmp Value
three = insert empty 0 (Keys 9 3 40 (65 ∷ 66 ∷ 67 ∷ []))

abbrev above : FinMap nat_cmp Value
above = insert empty 700 (batch_40 65)

-- a pending read waits at an empty input
no_byte : (x : List ℕ) → x ≡ [] → (d : Configuration) → ¬ Step no_code x (reads_on 0) d
no_byte x e d (f, there, (old, b, live, here, is)) = grind arith

-- a step reads one byte at most
few_bytes : goal.After-step_only_adds → (x : List ℕ) (n : ℕ) (c d : Configuration) → MakesSteps no_code x n c d → d.read ≤ c.read + n
unfolding MakesSteps
few_bytes laws x zero c d h = let same = ap (λ (c : Configuration). c.read) h in omega arith
few_bytes laws x (suc n) c d (b, before, last) = grind (arith, few_bytes laws x n c b before)

-- three steps read three bytes
three_steps : (x : List ℕ) → x ≡ 65 ∷ 66 ∷ 67 ∷ [] → MakesSteps no_code x 3 (reads_on 0) (reads_on 3)
unfolding MakesSteps
three_steps x e = rw e (
  reads_on 2,
  (
    reads_on 1,
    (reads_on 0, refl, (main_frame, refl, (0, 65, refl, refl, refl))),
    (main_frame, refl, (0, 66, refl, refl, refl)),
  ),
  (main_frame, refl, (0, 67, refl, refl, refl)),
)

pub returns-clause-reads_three : goal.returns-clause-reads_three
returns-clause-reads_three c = record {
  was = up_reading three 0;
  configuration = reads_on 3;
  made = 3;
  from = refl;
  few = omega arith;
  moves = three_steps _ (rw (entries_one 0 (Keys 9 3 40 (65 ∷ 66 ∷ 67 ∷ [])), get_here empty 0 (Keys 9 3 40 (65 ∷ 66 ∷ 67 ∷ []))) refl);
  left = refl;
  rest = grind (arith, nat_tests);
}

pub returns-clause-too_far : goal.returns-clause-too_far
returns-clause-too_far c h =
    let (made, few, moves) = run_moves (up_reading three 0) (up_reading three 3) 2 h in
    let most = few_bytes c _ made (reads_on 0) (reads_on 3) moves in
    omega arith

pub returns-clause-past_a_hole : goal.returns-clause-past_a_hole
returns-clause-past_a_hole c h =
    let (made, few, moves) = run_moves (up_reading above 0) (up_reading above 1) 1 h in
    let none : learned_input above ≡ [] = rw (entries_one 700 (batch_40 65)) refl in
    let same = ap (λ (c : Configuration). c.read) (stuck _ (reads_on 0) (no_byte _ none) made (reads_on 1) moves) in
    omega arith
