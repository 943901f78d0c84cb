use Rattle.std.proofs.Common.{◌≡◌, ◌+◌, Some, slice_get, length, refl, arith, add-one}
use Rattle.std.proofs.lemmas.Option.{slice_get_read}
use Rattle.pcode_frozen.proofs.TwinStates.{twin_below}
use Rattle.pcode_frozen.proofs.states.same_at.Goals as goal

pub returns-in-Some-frame-2 : goal.returns-in-Some-frame-2
returns-in-Some-frame-2 c = λ yes.
    let fs = c.args.frames.now in
    let index : c.from.result ≡ c.args.index = omega (arith, c.from.ensures) in
    let next : c.from-2.result ≡ c.args.index = omega (arith, c.from-2.ensures) in
    let one = c.in-Some.ensures.lookup in
    let above = c.in-Some-get.ensures.lookup in
    let found : slice_get fs c.from.result ≡ Some c.in-Some.one.now =
    slice_get_read fs (length fs) c.from.result c.in-Some.one.now refl one.3.0 one.1 in
    let here = rw index at found in
    let over : slice_get fs (c.from-2.result + 1) ≡ Some c.in-Some-get.above.now =
    slice_get_read fs (length fs) (c.from-2.result + 1) c.in-Some-get.above.now refl above.3.0
    above.1 in
    let up = rw (next, add-one) at over in
    let there : slice_get c.args.others.now c.args.index ≡ Some c.in-Some-frame.two = cc in
    let up2 : slice_get c.args.others.now (c.args.index + 1) ≡ Some c.in-Some-frame-2.other = cc in
    let same = c.same_frame.ensures c.if-not-same_frame.false in
    twin_below c.args.program.now _ _ _ c.args.index _ _ here there same _ _ up
    (rw add-one at up2) (c.goes_on.ensures yes)
