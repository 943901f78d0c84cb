-- Codes of ballots and values, so that a value that holds them can be the view of a type,
-- for example a finite map.
use Rattle.std.specs.Prelude.{◌≡◌, ℕ, List, Option, None, Some, refl}
use Rattle.std.specs.Coded.{Coded, code_by, coded×, coded_ℕ, coded_list, coded_option}
use Rattle.paxos_msg.specs.declared.ballot.Ballot.{Ballot}
use Rattle.paxos_msg.specs.declared.value.Value.{Value}
use Rattle.paxos_msg.specs.declared.value.Value.TheVariants.{Noop, Keys}

-- The code of a ballot: the pair of its fields.
abbrev pub ballot_code : Coded Ballot
ballot_code =
    code_by (ℕ × ℕ) (coded× coded_ℕ coded_ℕ) (λ b. (b.round, b.node))
    (λ p. record { round = p.0; node = p.1 }) (λ _. refl)

-- The fields of a batch, or none for a no-op.
abbrev value_fields : Value → Option (ℕ × (ℕ × (ℕ × List ℕ)))
value_fields Noop = None
value_fields (Keys node start first bytes) = Some (node, (start, (first, bytes)))

-- The value with these fields.
abbrev value_from : Option (ℕ × (ℕ × (ℕ × List ℕ))) → Value
value_from None = Noop
value_from (Some k) = Keys k.0 k.1.0 k.1.1.0 k.1.1.1

-- A value is the one with its fields.
abbrev value_back : (v : Value) → value_from (value_fields v) ≡ v
value_back Noop = refl
value_back (Keys node start first bytes) = refl

-- The code of a value: the fields of a batch, or none for a no-op.
abbrev pub value_code : Coded Value
value_code =
    code_by (Option (ℕ × (ℕ × (ℕ × List ℕ))))
    (coded_option (coded× coded_ℕ (coded× coded_ℕ (coded× coded_ℕ (coded_list coded_ℕ)))))
    value_fields value_from value_back
