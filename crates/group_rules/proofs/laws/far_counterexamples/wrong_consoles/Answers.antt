use Rattle.std.proofs.Common.{◌≡◌, ◌≤◌, ◌+◌, ℕ, List, [], ◌∷◌, length, length-append, inl, inr, refl, ap, arith}
use Rattle.std.proofs.lemmas.Bool.{cases_eq}
use Rattle.std.proofs.lemmas.Bool.Decides.{nat_tests}
use Rattle.pcode_ops.specs.Decoding.{instr_of}
use Rattle.pcode_machine.specs.declared.turn.End.TheVariants as ends
use Rattle.pcode_machine.specs.Transition.{Stops, transition}
use Rattle.pcode_machine.specs.Runs.{after_steps, led, out}
use Rattle.group_rules.specs.SmallPrograms.{letter_program}
use Rattle.group_rules.proofs.SmallPrograms.{stays, writes_letter, written_by}
use Rattle.group_rules.proofs.laws.far_counterexamples.wrong_consoles.Goals as goal

-- after ten steps, in which it writes the letter, the program ends
ended : (x : List ℕ) → transition letter_program x (after_steps letter_program x 10) ≡ Stops ends.Normal
unfolding after_steps instr_of
ended x = refl

one_letter : goal.After-output_only_grows → (x : List ℕ) (n : ℕ) → length (out letter_program x n) ≤ 1
one_letter c x n =
    let longer = c.output_only_grows.ensures.steps letter_program x n (10 + n) (omega arith) in
    let parts = length-append (out letter_program x n) longer.rest in
    let last = stays letter_program x 10 (ap (led (after_steps letter_program x 10)) (ended x)) (10 + n) (omega arith) in
    grind (arith, written_by letter_program x, last, (writes_letter x).writes, longer.whole, parts)

pub returns : goal.returns
returns c = record {
  one_byte = λ x i input. elim (cases_eq i 9) [
    | inl ninth ↦ (10, record { rest = []; whole = grind (arith, (writes_letter x).writes) })
    | inr other ↦ (10, record { rest = out letter_program x 10; whole = grind (arith, nat_tests) })
  ];
  two_bytes = λ h.
      let (x, input) = c.input_is_chosen.ensures.there 9 [] in
      let (n, begins) = h x 9 input in
      omega (arith, ap length begins.whole, length-append (65 ∷ 66 ∷ []) begins.rest, one_letter c x n);
  third_differs = λ h. grind (arith, h 7 9);
  last_lost = λ h. grind (arith, (h 9).whole);
  last_changed = λ h. grind (arith, (h 9).whole);
}
