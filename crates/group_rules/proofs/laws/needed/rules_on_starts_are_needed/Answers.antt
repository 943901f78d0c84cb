use Rattle.group_rules.proofs.WithoutKeyRules.{fell_back, started_uncounted, typed_again}
use Rattle.group_rules.proofs.laws.needed.rules_on_starts_are_needed.Goals as goal

pub returns : goal.returns
returns c = record { start_of_key = typed_again; start_counts = started_uncounted; fall_keeps = fell_back }
