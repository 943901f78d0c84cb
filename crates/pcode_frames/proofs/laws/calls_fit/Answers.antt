use Rattle.std.proofs.Common.{arith}
use Rattle.std.proofs.lemmas.Bool.Decides.{nat_tests}
use Rattle.pcode_frames.proofs.Calling.{ok_value}
use Rattle.pcode_frames.proofs.laws.calls_fit.Goals as goal

pub returns-clause-room : goal.returns-clause-room
returns-clause-room c = λ procedure params vars link back p. (λ q. grind (arith, nat_tests), λ h. ok_value _ (grind (arith, nat_tests)))

pub returns-clause-results : goal.returns-clause-results
returns-clause-results c = λ n f p. (λ q. grind (arith, nat_tests), λ h. ok_value _ (grind (arith, nat_tests)))
