use Rattle.std.proofs.Common.{◌≡◌, ◌∙◌, ℕ, ◌<◌, arith, inl, inr}
use Rattle.std.proofs.lemmas.Bool.{cases_lt}
use Rattle.std.proofs.lemmas.Int.{to_z-of_z}
use Rattle.std.specs.Int.{w16}
use Rattle.pcode_ops.specs.At.{cases}
use Rattle.pcode_frozen.specs.Twins.{listed, GoesOn}
use Rattle.pcode_frozen.proofs.CaseJumps.{cases_alike, entry_of}
use Rattle.pcode_frozen.proofs.twins.same_cases.Goals as goal

pub loop-k-preserved : goal.loop-k-preserved
loop-k-preserved c =
    let a = c.args in
    let low = to_z-of_z w16 a.low c.ranges.low in
    let high = to_z-of_z w16 a.high c.ranges.high in
    let k = c.loop-k.k in
    let count = rw (low, high) at c.cases-k-end.ensures in
    let less : k < cases a.low a.high = omega (arith, c.loop-k-test.true, count) in
    let word = rw low at c.word_of_entry-word.ensures in
    let is = (rw (low, high) at c.case-offset.ensures)
    ∙ entry_of a.program.now.segment a.low a.high a.table k _ less word in
    let other = (rw (low, high) at c.case-other_offset.ensures)
    ∙ entry_of a.other_program.now.segment a.low a.high a.other_table k _ less word in
    let on = rw (is, other) at c.goes_on.ensures c.if-not-goes_on.false in
    λ j at_most. elim (cases_lt j k) [
      | inl before ↦ c.loop-k.invariant j before
      | inr same ↦ (let here : j ≡ k = omega (arith, same, at_most) in rw here on)
    ]

pub returns : goal.returns
returns c = λ yes word.
    let a = c.args in
    let low = to_z-of_z w16 a.low c.ranges.low in
    let high = to_z-of_z w16 a.high c.ranges.high in
    let count = rw (low, high) at c.cases-k-end.ensures in
    let goes = λ (i k : ℕ). GoesOn a.other_program.now (listed a.pairs.now) a.after.procedure i
    a.after.other k in
    cases_alike goes a.program.now.segment a.other_program.now.segment a.low a.high a.table
    a.other_table (λ k less. c.loop-k.invariant k (omega (arith, c.loop-k-test.false, count, less)))
    (c.goes_on-2.ensures yes) word
