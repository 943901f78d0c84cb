-- The function of an instruction and its relations agree.
use Rattle.std.proofs.Common.{◌≡◌, ℕ, Some, MatchOption, Ok, Err, MatchResult, arith}
use Rattle.std.proofs.lemmas.Option.{slice_get_past}
use Rattle.std.proofs.lemmas.Bool.Decides.{nat_tests}
use Rattle.base.proofs.Lists.{get_none}
use Rattle.pcode_machine.specs.declared.turn.Stop.{Stop}
use Rattle.pcode_machine.specs.declared.turn.Stop.TheVariants.{Normal, Error}
use Rattle.pcode_machine.specs.declared.errors.ExecutionError.{ExecutionError}
use Rattle.pcode_machine.specs.Configuration.{State}
use Rattle.pcode_machine.specs.Effects.{Effect, Finish}
use Rattle.pcode_machine.specs.Execute.{made}
use Rattle.pcode_machine.specs.Step.{HasEffect, FailsBy}

-- why an effect stops the program: it is the normal end, or an error of the effect
abbrev StopsWith : Effect → State → Stop → Type 0
StopsWith x s Normal = x ≡ Finish
StopsWith x s (Error e) = FailsBy x s e

-- what the function answers for an effect meets its relations
pub holds : (x : Effect) (j : ℕ) (s : State) → MatchOption (made x j s) (Unit {0}) (λ r. MatchResult r (HasEffect x j s) (StopsWith x s))
holds x j s = grind (arith, nat_tests, get_none, slice_get_past)

-- and it answers what they say
pub goes : (x : Effect) (j : ℕ) (s t : State) → HasEffect x j s t → made x j s ≡ Some (Ok t)
goes x j s t h = grind (arith, nat_tests)

pub fails : (x : Effect) (j : ℕ) (s : State) (e : ExecutionError) → FailsBy x s e → made x j s ≡ Some (Err (Error e))
fails x j s e h = grind (arith, nat_tests, slice_get_past)
