-- A proposer under one ballot: the promises that it has heard, and its proposals.
use Rattle.std.specs.Prelude.{◌≡◌, ℕ, ◌+◌, ◌-◌, max, nat_le, nat_lt, ◌&&◌, Bool, List, [], ◌∷◌, ◌++◌, length, replicate, slice_get, slice_index, slice_set, Option, Some, None, if◌then◌else◌}
use Rattle.std.specs.List.{list_any}
use Rattle.paxos_msg.specs.declared.ballot.Ballot.{Ballot}
use Rattle.paxos_msg.specs.declared.value.Value.{Value}
use Rattle.paxos_msg.specs.declared.value.Value.TheVariants.{Noop}
use Rattle.paxos_msg.specs.Batches.{Body, Vote}
use Rattle.paxos_msg.specs.declared.message.Body.TheVariants as body
use Rattle.paxos_msg.specs.Messages.{kept_vote_at}
use Rattle.paxos_msg.specs.Records.{with_vote}
use Rattle.paxos_msg.specs.Tests.{ballot_lt, is_majority}
use Rattle.paxos_msg.specs.Places.{votes_from}
use Rattle.paxos_msg.specs.declared.limits.TheConstants.{PLACES}

-- The knowledge of a proposer in a group of `size` nodes. `coverages` has the place up to which
-- each acceptor's promises reach, by its number, 1 to 9. `kept` has the vote to keep for each place
-- from the next one on, in ascending order. `values` has the proposed values, at place `first` and
-- on.
-- Source: Simple 2.2 and 3.
pub record Proposer : Type 0 where
  pub ballot : Ballot
  pub size : ℕ
  pub coverages : List ℕ
  pub kept : List Vote
  pub first : ℕ
  pub values : List Value

-- A proposer that has heard nothing.
abbrev pub new_proposer : Ballot → ℕ → ℕ → Proposer
new_proposer b from size =
    record {
      ballot = b;
      size = size;
      coverages = replicate 10 from;
      kept = [];
      first = from;
      values = [];
    }

-- The next place to propose at.
-- Source: Simple 3.
abbrev pub next_of : Proposer → ℕ
next_of p = p.first + length p.values

-- The value that is proposed at a place, if any.
-- Source: Simple 3.
abbrev pub proposed_at : Proposer → ℕ → Option Value
proposed_at p s = if nat_lt s p.first then None else slice_get p.values (s - p.first)

-- The place up to which the promises of acceptor `i` reach.
-- Source: Simple 3.
abbrev pub coverage_of : Proposer → ℕ → ℕ
coverage_of p i = slice_index p.coverages i

-- True if the promises of acceptor `i` reach beyond place `s`.
abbrev pub is_covered_by : List ℕ → ℕ → ℕ → Bool
is_covered_by coverages s i = nat_lt s (slice_index coverages i)

-- True if the promises of a majority reach beyond place `s`.
-- Source: Simple 2.2, phase 2(a); section 3.
abbrev pub is_covered : Proposer → ℕ → Bool
is_covered p s = is_majority p.size (is_covered_by p.coverages s)

-- ---- a part of a promise

-- True if acceptor `j`'s part, for the places from `first` up to `upto`, raises its coverage.
abbrev pub rises : Proposer → ℕ → ℕ → ℕ → Bool
rises p j first upto = nat_le first (coverage_of p j) && nat_lt (coverage_of p j) upto

-- The vote to keep at a place: the one with the greater ballot, and of equal ballots the first.
-- Source: Simple 2.2, P2c.
abbrev pub greater : Option Vote → Vote → Vote
greater None vote = vote
greater (Some kept) vote = if ballot_lt kept.ballot vote.ballot then vote else kept

-- The kept votes after one that is reported at a place from `low` on.
abbrev pub heard_one : ℕ → List Vote → Vote → List Vote
heard_one low kept vote =
    if nat_le low vote.place then with_vote kept (greater (kept_vote_at kept vote.place) vote)
    else kept

-- The kept votes after these, one after another: at each place the one of the greatest ballot.
-- Source: Simple 2.2, phase 2(a).
abbrev pub heard : ℕ → List Vote → List Vote → List Vote
heard low kept [] = kept
heard low kept (vote ∷ votes) = heard low (heard_one low kept vote) votes

-- The proposer after a part of acceptor `j`. A part that does not raise the coverage is ignored. Of
-- its votes those count that are at places from the old coverage on, where nothing is proposed yet.
-- Source: Simple 2.2, phase 2(a); section 3, phase 1 for many places at once.
-- Allows: A part that comes late or again, which is ignored.
-- Forbids: A change at a place that has its proposal.
abbrev pub proposer_after_part : Proposer → ℕ → ℕ → ℕ → List Vote → Proposer
proposer_after_part p j first upto votes =
    if rises p j first upto
    then record p {
      coverages = slice_set p.coverages j upto;
      kept = heard (max (coverage_of p j) (next_of p)) p.kept votes;
    }
    else p

-- The place from which to ask the acceptor for more: its new coverage, if it rose and is not the
-- last.
abbrev pub asks_on : Proposer → ℕ → ℕ → ℕ → Option ℕ
asks_on p j first upto = if rises p j first upto && nat_lt upto PLACES then Some upto else None

-- A body that is a promise, or a part of one, under the ballot.
abbrev pub IsPromisePart : Ballot → Body → Type 0
IsPromisePart b (body.Promise ballot first upto votes) = ballot ≡ b
IsPromisePart b _ = ⊥

-- The proposer after a body: a part of a promise counts, and no other body changes anything.
-- Source: Simple 2.2, phase 2(a).
-- Forbids: A body of another kind that changes anything.
abbrev pub heard_promise : Proposer → ℕ → Body → Proposer
heard_promise p j (body.Promise ballot first upto votes) = proposer_after_part p j first upto votes
heard_promise p j _ = p

-- The place from which to ask for more after a body, if any.
abbrev pub asks_after : Proposer → ℕ → Body → Option ℕ
asks_after p j (body.Promise ballot first upto votes) = asks_on p j first upto
asks_after p j _ = None

-- ---- proposing

-- True if a vote is kept at place `s` or above it.
abbrev pub is_kept_from : List Vote → ℕ → Bool
is_kept_from kept s = list_any (λ vote. nat_le s vote.place) kept

-- The kept vote's value, or else the other.
abbrev pub value_or : Option Vote → Option Value → Option Value
value_or None other = other
value_or (Some vote) other = Some vote.value

-- The value to propose at the next place, if a majority's promises reach beyond it. It is the value
-- of the vote that is kept there; without one a no-op if a vote is kept above; and else the offered
-- one.
-- Source: Simple 2.2, phase 2(a), P2c; section 3, gaps filled by no-ops.
-- Allows: An offered value above all kept votes.
-- Forbids: An offered value where a vote is kept.
abbrev pub next_value : Proposer → Option Value → Option Value
next_value p offered =
    if is_covered p (next_of p)
    then value_or (kept_vote_at p.kept (next_of p))
    (if is_kept_from p.kept (next_of p + 1) then Some Noop else offered)
    else None

-- The proposer after it has proposed the value, if any; a vote that was kept at the place is
-- dropped.
-- Source: Simple 2.2, phase 2(a).
abbrev pub proposing : Proposer → Option Value → Proposer
proposing p None = p
proposing p (Some v) =
    record p { values = p.values ++ v ∷ []; kept = votes_from (next_of p + 1) p.kept }

-- The proposal of a value, as a vote under the proposer's ballot.
-- Source: Simple 3.
abbrev pub proposal : Proposer → Value → Vote
proposal p v = record { place = next_of p; ballot = p.ballot; value = v }

-- ---- the next ballot

-- The round of a ballot, 0 if there is none.
abbrev pub round_of : Option Ballot → ℕ
round_of None = 0
round_of (Some b) = b.round

-- The greater of the rounds of two ballots, 0 if there is none.
-- Source: Simple 2.2, proposal numbers.
abbrev pub greatest_round : Option Ballot → Option Ballot → ℕ
greatest_round promised seen = max (round_of promised) (round_of seen)
