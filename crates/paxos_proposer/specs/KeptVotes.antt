-- The view of the votes that a proposer keeps.
use Rattle.std.specs.Prelude.{◌≡◌, ℕ, nat_le, Bool, false, List, [], ◌∷◌, Option, Some, None}
use Rattle.paxos_msg.specs.Batches.{Vote}
use Rattle.paxos_msg.specs.Records.{with_vote}
use Rattle.paxos_proposer.specs.declared.kept.Report.{Report}
use Rattle.paxos_proposer.specs.Proposer.{is_kept_from}

-- The kept votes in ascending order of place, and how many more have room.
pub record Kept : Type 0 where
  pub votes : List Vote
  pub room : ℕ

-- The report of a place, as a vote.
abbrev pub vote_of : ℕ → Report → Vote
vote_of s r = record { place = s; ballot = r.ballot; value = r.value }

-- The votes of reports by place, in ascending order of place; of two at one place the first counts.
abbrev pub reported_votes : List (ℕ × Report) → List Vote
reported_votes [] = []
reported_votes (e ∷ es) = with_vote (reported_votes es) (vote_of e.0 e.1)

-- True if the place is not above the greatest one, if there is one.
abbrev pub is_upto : Option ℕ → ℕ → Bool
is_upto None s = false
is_upto (Some greatest) s = nat_le s greatest

-- The greatest place that has a vote, if there is one. A vote is at a place or above it exactly if
-- the place is not above this one.
pub record IsGreatestPlace (votes : List Vote) (greatest : Option ℕ) : Type 0 where
  pub upto : (s : ℕ) → is_kept_from votes s ≡ is_upto greatest s
