-- Codes of tallies and of a learner's view, so that they can be views of types.
use Rattle.std.specs.Prelude.{ℕ, Bool, List, refl}
use Rattle.std.specs.Coded.{Coded, code_by, coded×, coded_ℕ, coded_bool, coded_list}
use Rattle.std.specs.Ordering.{nat_cmp}
use Rattle.std.specs.FinMap.{FinMap, code}
use Rattle.paxos_msg.specs.declared.ballot.Ballot.{Ballot}
use Rattle.paxos_msg.specs.declared.value.Value.{Value}
use Rattle.paxos_msg.specs.Codes.{ballot_code, value_code}
use Rattle.paxos_learner.specs.Tallies.{Tally}
use Rattle.paxos_learner.specs.Learner.{Learner}

-- The code of a tally: its three fields.
abbrev tally_code : Coded Tally
tally_code =
    code_by (Ballot × (Value × List Bool))
    (coded× ballot_code (coded× value_code (coded_list coded_bool)))
    (λ t. (t.ballot, (t.value, t.nodes)))
    (λ p. record { ballot = p.0; value = p.1.0; nodes = p.1.1 }) (λ _. refl)

-- The code of a learner's view: its three fields.
abbrev pub learner_code : Coded Learner
learner_code =
    code_by (ℕ × (FinMap nat_cmp Value × FinMap nat_cmp Tally))
    (coded× coded_ℕ (coded× (code coded_ℕ value_code) (code coded_ℕ tally_code)))
    (λ l. (l.size, (l.learned, l.tallies)))
    (λ p. record { size = p.0; learned = p.1.0; tallies = p.1.1 }) (λ _. refl)
