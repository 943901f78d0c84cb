use Rattle.std.proofs.Common.{ap, arith}
use Rattle.group_rules.specs.Rules.{WorldState}
use Rattle.group_rules.proofs.laws.steps.wrong_idleness.Goals as goal

pub returns-clause-saves : goal.returns-clause-saves
returns-clause-saves c h = let same = ap (λ (w : WorldState). w.seats 9) h in grind arith
