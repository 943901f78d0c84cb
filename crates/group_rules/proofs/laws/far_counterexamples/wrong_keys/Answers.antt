use Rattle.std.proofs.Common.{ℕ, List, [], ◌∷◌, refl, arith, lit<}
use Rattle.paxos_msg.specs.declared.value.Value.{Value}
use Rattle.paxos_msg.specs.Batches.{Sent}
use Rattle.group_node.specs.Inputs.{AreChosen}
use Rattle.group_rules.specs.WrongSteps.{ballot_by, key_of_9}
use Rattle.group_rules.specs.FarCounterexamples.{chosen_three}
use Rattle.group_rules.proofs.WrittenVotes.{are_chosen, chosen_by, not_row}
use Rattle.group_rules.proofs.laws.far_counterexamples.wrong_keys.Goals as goal

three_chosen : (a b c : Value) → AreChosen 9 (chosen_three a b c).sent (a ∷ b ∷ c ∷ [])
three_chosen a b c =
    let sent : Sent = (chosen_three a b c).sent in
    let five : List ℕ = 2 ∷ 4 ∷ 6 ∷ 7 ∷ 9 ∷ [] in
    are_chosen (a ∷ b ∷ c ∷ []) (
      (ballot_by 7 41, chosen_by sent five 0 (lit< tt) refl),
      ((ballot_by 7 41, chosen_by sent five 5 (lit< tt) refl), ((ballot_by 7 41, chosen_by sent five 10 (lit< tt) refl), tt)),
    )

pub returns : goal.returns
returns c = record {
  serial_twice = λ h. h _ (three_chosen _ _ _) 1 2 (key_of_9 40 65) (omega arith) (omega arith)
      (record { node = refl; start = refl; serial = refl });
  fortieth_first = λ h. not_row (λ e. grind arith) (h _ (three_chosen _ _ _) 9 3);
  second_first = λ h. not_row (λ e. grind arith) (h _ (three_chosen _ _ _) 9 3);
  third_missing = λ h. not_row (λ e. grind arith) (h _ (three_chosen _ _ _) 9 3);
}
