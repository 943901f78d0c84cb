use Rattle.std.proofs.Common.{◌≡◌, Some, slice_get, get_or, arith, inl, inr}
use Rattle.std.proofs.lemmas.Bool.{cases_lt}
use Rattle.std.proofs.lemmas.Option.{slice_get_within, get_or_from_slice_get}
use Rattle.pcode_frozen.specs.declared.pairs.Pair.{Pair}
use Rattle.pcode_frozen.proofs.twins.are_twins.Goals as goal

pub loop-pair-preserved : goal.loop-pair-preserved
loop-pair-preserved c = λ k x low is. elim (cases_lt k c.loop-pair.pair-index) [
  | inl less ↦ c.loop-pair.invariant k x less is
  | inr same ↦ (
      let e = c.same_place.ensures c.if-not-same_place.false in
      let here : c.loop-pair.pair-index ≡ k = omega (arith, same, low) in
      let none : Pair = record { procedure = 0; offset = 0; other = 0; other_offset = 0 } in
      let found : get_or c.args.pairs.now c.loop-pair.pair-index none ≡ x =
      (let there : slice_get c.args.pairs.now c.loop-pair.pair-index ≡ Some x = rw here is in
      grind (arith, there, get_or_from_slice_get)) in
      rw found at e
      )
]

pub returns : goal.returns
returns c = λ yes n i m k (at, is).
    let pair : Pair = record { procedure = n; offset = i; other = m; other_offset = k } in
    c.loop-pair.invariant at pair
    (omega (arith, c.loop-pair-test.false, slice_get_within c.args.pairs.now at _ is)) is
