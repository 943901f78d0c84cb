use Rattle.group_rules.proofs.WithoutOtherRules.{guessed_only, told_only, voted_twice}
use Rattle.group_rules.proofs.laws.needed.rules_on_learning_are_needed.Goals as goal

pub returns : goal.returns
returns c = record { sends = told_only; gains = guessed_only; saves = voted_twice }
