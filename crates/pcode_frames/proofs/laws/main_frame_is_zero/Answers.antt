use Rattle.std.proofs.Common.{[], refl, arith}
use Rattle.std.proofs.lemmas.Bool.Decides.{nat_tests}
use Rattle.pcode_frames.specs.Frames.{space, frame_of}
use Rattle.pcode_frames.proofs.Calling.{ok_value}
use Rattle.pcode_frames.proofs.laws.main_frame_is_zero.Goals as goal

pub returns-clause-frame : goal.returns-clause-frame
returns-clause-frame c = λ size q e. (frame_of (space [] [] []) 1 size 0 0, grind (arith, nat_tests), refl, refl, refl, refl)

pub returns-clause-fits : goal.returns-clause-fits
returns-clause-fits c = λ size. (λ q. grind (arith, nat_tests), λ h. ok_value _ (grind (arith, nat_tests)))
