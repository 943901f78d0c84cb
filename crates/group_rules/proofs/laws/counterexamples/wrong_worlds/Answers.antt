use Rattle.std.proofs.Common.{◌++◌, [], ◌∷◌, refl, arith, lit<}
use Rattle.std.proofs.lemmas.Bool.Decides.{nat_tests}
use Rattle.paxos_msg.specs.declared.value.Value.{Value}
use Rattle.paxos_msg.specs.declared.value.Value.TheVariants.{Noop}
use Rattle.paxos_msg.specs.Batches.{Sent}
use Rattle.paxos_msg.specs.Keys.{Key}
use Rattle.pcode_machine.specs.Runs.{after_steps}
use Rattle.group_node.specs.Inputs.{AreChosen}
use Rattle.group_rules.specs.WrongSteps.{ballot_by}
use Rattle.group_protocol.proofs.Elements.{none_in}
use Rattle.group_rules.specs.Counterexamples.{chosen, key_batch, not_chosen, silent}
use Rattle.group_rules.proofs.SmallPrograms.{stays, written_by}
use Rattle.group_rules.proofs.WrittenVotes.{are_chosen, chosen_by, has_learned, not_chosen as none_chosen, not_row}
use Rattle.group_rules.proofs.laws.counterexamples.wrong_worlds.Goals as goal

two_chosen : (v u : Value) → AreChosen 5 (chosen 0 v ++ chosen 1 u) (v ∷ u ∷ [])
two_chosen v u =
    let sent : Sent = chosen 0 v ++ chosen 1 u in
    are_chosen (v ∷ u ∷ []) (
      (ballot_by 1 1, chosen_by sent (3 ∷ 4 ∷ 5 ∷ []) 0 (lit< tt) refl),
      ((ballot_by 1 1, chosen_by sent (3 ∷ 4 ∷ 5 ∷ []) 3 (lit< tt) refl), tt),
    )

pub returns : goal.returns
unfolding after_steps
returns c =
    let first : Key = record { node = 2; start = 1; serial = 1; byte = 65 } in
    record {
      two_values = λ h. grind (arith, h 4 5 0 (key_batch 1 65) Noop (has_learned _ refl refl) (has_learned _ refl refl));
      not_chosen = λ h. none_chosen not_chosen.sent (λ round. grind (arith, nat_tests)) (h 4 0 Noop (has_learned _ refl refl)).0;
      is_chosen = (ballot_by 1 1, chosen_by (chosen 0 (key_batch 1 65)) (3 ∷ 4 ∷ 5 ∷ []) 0 (lit< tt) refl);
      not_typed = λ h. none_in _ ((h 4 0 (key_batch 1 65) (has_learned _ refl refl)).1 first (0, lit< tt, refl));
      -- the program without code never writes
      wrong_console = λ h.
          let (x, input) = c.input_is_chosen.ensures.there 5 [] in
          let (n, begins) = h x 2 input in
          grind (arith, written_by silent x n, stays silent x 0 refl n (omega arith), begins.whole);
      two_consoles = λ h. grind (arith, h 2 5);
      early_byte = λ h. (h 3 66 _ refl refl).0 refl;
      other_byte = λ h. grind (arith, (h 3 66 _ refl refl).1 refl);
      key_twice = λ h.
          h _ (two_chosen _ _) 0 1 first (omega arith) (omega arith) (record { node = refl; start = refl; serial = refl });
      second_first = λ h. not_row (λ e. grind arith) (h _ (two_chosen _ _) 2 1);
      second_missing = λ h. not_row (λ e. grind arith) (h _ (two_chosen _ _) 2 1);
      learned_another = λ h. grind (arith, h 4 5 0 (key_batch 1 65) Noop (has_learned _ refl refl) (has_learned _ refl refl));
      console_lost = λ h. grind (arith, (h 5).whole);
    }
