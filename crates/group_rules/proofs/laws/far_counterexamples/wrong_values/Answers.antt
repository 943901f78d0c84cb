use Rattle.std.proofs.Common.{[], ◌∷◌, refl, arith, lit<}
use Rattle.std.proofs.lemmas.Bool.Decides.{nat_tests}
use Rattle.group_rules.specs.WrongSteps.{ballot_by, key_of_9}
use Rattle.group_rules.specs.FarCounterexamples.{forty_and, late_unchosen, late_untyped}
use Rattle.group_rules.proofs.WrittenVotes.{chosen_by, has_learned, not_chosen}
use Rattle.group_rules.proofs.laws.far_counterexamples.wrong_values.Goals as goal

pub returns : goal.returns
returns c = record {
  two_values = λ h. grind (arith, h 6 9 700 (forty_and 66) (forty_and 67) (has_learned _ refl refl) (has_learned _ refl refl));
  -- no majority has accepted it under one ballot
  not_chosen = λ h.
      not_chosen late_unchosen.sent (λ round. grind (arith, nat_tests)) (h 9 700 (forty_and 66) (has_learned _ refl refl)).0;
  is_chosen = (ballot_by 7 41, chosen_by late_untyped.sent (2 ∷ 4 ∷ 6 ∷ 7 ∷ 9 ∷ []) 0 (lit< tt) refl);
  not_typed = λ h.
      let (k, below, at) = (h 9 700 (forty_and 66) (has_learned _ refl refl)).1 (key_of_9 41 66) (1, lit< tt, refl) in grind arith;
  learned_another = λ h.
      grind (arith, h 9 6 700 (forty_and 66) (forty_and 67) (has_learned _ refl refl) (has_learned _ refl refl));
}
