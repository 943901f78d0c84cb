use Rattle.std.proofs.Common.{◌≡◌, arith, inl, inr}
use Rattle.std.proofs.lemmas.Bool.{cases_lt}
use Rattle.std.proofs.lemmas.Option.{slice_get_within}
use Rattle.pcode_frozen.proofs.states.same_frames.Goals as goal

pub loop-index-preserved : goal.loop-index-preserved
loop-index-preserved c = λ k at_most. elim (cases_lt k c.loop-index.index) [
  | inl before ↦ c.loop-index.invariant k before
  | inr same ↦ (
      let here : k ≡ c.loop-index.index = omega (arith, same, at_most) in
      rw here (c.same_at.ensures c.if-not-same_at.false)
      )
]

pub returns : goal.returns
returns c = λ yes.
    let end = c.loop-index-test.false in
    let count = c.count-index-end.ensures.value in
    let at = c.loop-index.invariant in
    record {
      same = omega (arith, c.if-frames-count.false, c.count.ensures.value);
      each = λ i f g here there. (at i
          (omega (arith, end, count, slice_get_within c.args.others.now i g there))
          f g here there).0;
      backs = λ i f g above other here there up up2. (at i
          (omega (arith, end, count, slice_get_within c.args.others.now i g there))
          f g here there).1 above other up up2;
      main = c.begins_in_main.ensures yes;
    }
