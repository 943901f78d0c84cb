use Rattle.std.proofs.Common.{[], ◌∷◌, inr, refl, arith}
use Rattle.std.proofs.lemmas.Bool.Decides.{nat_tests}
use Rattle.group_rules.specs.WrongSteps.{up_written}
use Rattle.group_rules.proofs.laws.steps.right_deeds.Goals as goal

pub returns-clause-falls_old : goal.returns-clause-falls_old
returns-clause-falls_old c = record { round = 41; call = inr (grind (arith, nat_tests)) }

pub returns-clause-falls_new : goal.returns-clause-falls_new
returns-clause-falls_new c = record { round = 41; call = inr (grind (arith, nat_tests)) }

pub returns-clause-releases : goal.returns-clause-releases
returns-clause-releases c = record {
  was = up_written (65 ∷ 66 ∷ 67 ∷ []) 1;
  from = refl;
  left = refl;
  rest = grind (arith, nat_tests);
}
