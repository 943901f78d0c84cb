use Rattle.std.proofs.Common.{arith, rules}
use Rattle.std.proofs.lemmas.Bool.Decides.{nat_tests}
use Rattle.std.proofs.lemmas.Int.{to_z-of_z}
use Rattle.std.specs.Int.{w16}
use mir.Val.{SFits}
use Rattle.pcode_frozen.proofs.CaseJumps.{one_number}
use Rattle.pcode_frozen.specs.Twins.{Jumps, IfFalse, IfNotEqual, IfEqual, Cases, Local, Global, Intermediate, Finishes, Returns}
use Rattle.pcode_frozen.proofs.twins.same_instruction.Goals as goal

pub returns-in-Ujp-Ujp : goal.returns-in-Ujp-Ujp
returns-in-Ujp-Ujp c = λ h. Jumps c.in-Ujp-Ujp.sb c.in-Ujp-Ujp.by c.in-Ujp-Ujp.is-0
    c.in-Ujp-Ujp.is-1 (let t = c.same_targets.ensures h in search (rules, t))

pub returns-else-not-on : goal.returns-else-not-on
returns-else-not-on c = λ h. IfFalse c.in-Fjp-Fjp.sb c.in-Fjp-Fjp.by c.in-Fjp-Fjp.is-0
    c.in-Fjp-Fjp.is-1 (let t = c.same_targets-in-Fjp-Fjp.ensures h in search (rules, t))
    (c.goes_on-on.ensures c.if-not-on.false)

pub returns-else-not-on-2 : goal.returns-else-not-on-2
returns-else-not-on-2 c = λ h. Local _ _ c.in-Clp-Clp.is-0 c.in-Clp-Clp.is-1
    (c.same_callees.ensures h) (c.goes_on-on.ensures c.if-not-on-2.false)

pub returns-else-words-other_words : goal.returns-else-words-other_words
returns-else-words-other_words c = λ h.
    let e = c.if-words-other_words.false in
    let two = c.in-Rnp-Rnp.is-1 in
    Returns c.in-Rnp-Rnp.words c.in-Rnp-Rnp.is-0 (rw e two) (grind (arith, nat_tests, h))

pub returns-else-not-on-3 : goal.returns-else-not-on-3
returns-else-not-on-3 c = λ h. IfNotEqual c.in-Efj-Efj.sb c.in-Efj-Efj.by c.in-Efj-Efj.is-0
    c.in-Efj-Efj.is-1 (let t = c.same_targets-in-Efj-Efj.ensures h in search (rules, t))
    (c.goes_on-on.ensures c.if-not-on-3.false)

pub returns-else-not-on-4 : goal.returns-else-not-on-4
returns-else-not-on-4 c = λ h. IfEqual c.in-Nfj-Nfj.sb c.in-Nfj-Nfj.by c.in-Nfj-Nfj.is-0
    c.in-Nfj-Nfj.is-1 (let t = c.same_targets-in-Nfj-Nfj.ensures h in search (rules, t))
    (c.goes_on-on.ensures c.if-not-on-4.false)

pub returns-else-not-on-5 : goal.returns-else-not-on-5
returns-else-not-on-5 c = λ h. Global _ _ c.in-Cgp-Cgp.is-0 c.in-Cgp-Cgp.is-1
    (c.same_callees-in-Cgp-Cgp.ensures h) (c.goes_on-on.ensures c.if-not-on-5.false)

pub returns-else-not-same_level : goal.returns-else-not-same_level
returns-else-not-same_level c = λ h. Intermediate _ _ c.in-Cip-Cip.is-0 c.in-Cip-Cip.is-1
    (c.same_callees-in-Cip-Cip.ensures h) (c.same_level.ensures c.if-not-same_level.false)
    (c.goes_on-on.ensures c.if-not-on-6.false)

pub returns-in-Rbp-Rbp : goal.returns-in-Rbp-Rbp
returns-in-Rbp-Rbp c = λ yes. Finishes _ _ c.in-Rbp-Rbp.is-0 c.in-Rbp-Rbp.is-1

pub same_cases-requires-clause-table : goal.same_cases-requires-clause-table
same_cases-requires-clause-table c =
    let x = c.in-Xjp-Xjp in
    let low : SFits w16 x.low = search rules in
    let high : SFits w16 x.high = search rules in
    let table = c.requires.table x.low x.high x.sb-0 x.table x.is-0 in
    rw (to_z-of_z w16 x.low low, to_z-of_z w16 x.high high) table

pub same_cases-requires-clause-other_table : goal.same_cases-requires-clause-other_table
same_cases-requires-clause-other_table c =
    let x = c.in-Xjp-Xjp in
    let low : SFits w16 x.low = search rules in
    let high : SFits w16 x.high = search rules in
    let low2 : SFits w16 x.other_low = search rules in
    let high2 : SFits w16 x.other_high = search rules in
    let same = one_number low low2 c.if-low-other_low.false in
    let same2 = one_number high high2 c.if-high-other_high.false in
    let table = c.requires.other_table _ _ _ _ x.is-1 in
    rw (to_z-of_z w16 x.low low, to_z-of_z w16 x.high high, same, same2) table

pub returns-else-high-other_high : goal.returns-else-high-other_high
returns-else-high-other_high c = λ yes.
    let x = c.in-Xjp-Xjp in
    let low : SFits w16 x.low = search rules in
    let high : SFits w16 x.high = search rules in
    let low2 : SFits w16 x.other_low = search rules in
    let high2 : SFits w16 x.other_high = search rules in
    let same = one_number low low2 c.if-low-other_low.false in
    let same2 = one_number high high2 c.if-high-other_high.false in
    let other = rw (← same, ← same2) at x.is-1 in
    let on = c.same_cases.ensures yes in
    Cases x.low x.high x.sb-0 x.table x.low x.high _ x.other_table x.is-0 other
    (λ word. rw (to_z-of_z w16 x.low low, to_z-of_z w16 x.high high) at on word)
