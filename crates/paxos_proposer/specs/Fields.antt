-- The view of a proposer's fields.
use Rattle.std.specs.Prelude.{◌-◌, vec_len, vec_capacity}
use Rattle.paxos_proposer.specs.Proposer.{Proposer}
use Rattle.paxos_proposer.specs.States.{IsProposer, ProposerState}
use Rattle.paxos_proposer.specs.declared.proposer.Proposer.TheInside.{Inside}

-- The knowledge of a proposer with these fields.
abbrev pub rules_of : Inside → Proposer
rules_of p =
    record {
      ballot = p.ballot;
      size = p.size;
      coverages = p.coverages;
      kept = p.kept.votes;
      first = p.first;
      values = p.values.items;
    }

-- The view of a proposer with these fields.
abbrev pub proposer_state : Inside → ProposerState
proposer_state p = record { known = rules_of p; room = vec_capacity p.values - vec_len p.values }

-- The invariant of these fields.
abbrev pub AreWhole : Inside → Type 0
AreWhole p = IsProposer (rules_of p)
