use Rattle.group_rules.proofs.WithoutOtherRules.{counted_unreleased, run_out, ticked_out}
use Rattle.group_rules.proofs.laws.needed.rules_on_output_are_needed.Goals as goal

pub returns : goal.returns
returns c = record {
  configuration = ticked_out c.input_is_chosen.ensures.there;
  moves = run_out c.input_is_chosen.ensures.there;
  released = counted_unreleased;
}
