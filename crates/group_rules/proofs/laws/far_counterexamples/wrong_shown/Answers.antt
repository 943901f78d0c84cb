use Rattle.std.proofs.Common.{[], ◌∷◌, refl, arith}
use Rattle.group_rules.specs.WrongSteps.{up_written}
use Rattle.group_rules.proofs.laws.far_counterexamples.wrong_shown.Goals as goal

pub returns : goal.returns
returns c = record {
  early_byte = λ h. (h 9 67 _ refl refl).0 refl;
  other_byte = λ h. grind (arith, (h 9 66 _ refl refl).1 refl);
  too_short = λ h. omega (arith, (h 9 (up_written (65 ∷ 66 ∷ 67 ∷ []) 2) refl).0);
  past_output = λ h. omega (arith, (h 9 (up_written (65 ∷ []) 2) refl).0);
  another_shown = λ h. grind (arith, (h 9 (up_written (65 ∷ 66 ∷ 67 ∷ []) 2) refl).1);
}
