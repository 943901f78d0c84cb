use Rattle.group_rules.proofs.WithoutKeyRules.{counted_on, left_out, left_unread, second_alone, started_hearing}
use Rattle.group_rules.proofs.laws.needed.rules_on_order_are_needed.Goals as goal

pub returns : goal.returns
returns c = record { submits = second_alone; waiting = left_unread; next = counted_on; serial = left_out; cause = started_hearing }
