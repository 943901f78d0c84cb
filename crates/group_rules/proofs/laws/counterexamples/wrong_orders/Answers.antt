use Rattle.std.proofs.Common.{refl, arith}
use Rattle.group_rules.proofs.WrittenVotes.{not_row}
use Rattle.group_rules.proofs.laws.counterexamples.wrong_orders.Goals as goal

pub returns : goal.returns
returns c = record {
  early = λ h. not_row (λ e. grind arith) (h 2 1);
  gap = λ h. not_row (λ e. grind arith) (h 2 1);
  twice = λ h. h 0 1 (record { node = 2; start = 1; serial = 1; byte = 65 }) (omega arith) (omega arith)
      (record { node = refl; start = refl; serial = refl });
}
