-- Votes by place: the votes from a place on, and the index of a place among votes that ascend.
use Rattle.std.specs.Prelude.{◌≡◌, ℕ, ◌<◌, ◌≤◌, nat_le, List, length, filter, get_or}
use Rattle.paxos_msg.specs.declared.value.Vote.{Vote}

-- The votes at place `s` and above.
abbrev pub votes_from : {V : Type 0} → ℕ → List (Vote V) → List (Vote V)
votes_from s votes = filter (λ vote. nat_le s vote.place) votes

-- Index `i` of a vote at place `s`; the votes before it are at smaller places.
pub record IsPlaceIn {V : Type 0} (votes : List (Vote V)) (s i : ℕ) : Type 0 where
  pub in_range : i < length votes
  pub same : (d : Vote V) → (get_or votes i d).place ≡ s
  pub before : (j : ℕ) (d : Vote V) → j < i → (get_or votes j d).place < s

-- Index `i` at which a vote at place `s` would be: the votes before are below `s`, the others
-- above.
pub record IsGapIn {V : Type 0} (votes : List (Vote V)) (s i : ℕ) : Type 0 where
  pub in_range : i ≤ length votes
  pub before : (j : ℕ) (d : Vote V) → j < i → (get_or votes j d).place < s
  pub after : (j : ℕ) (d : Vote V) → i ≤ j → j < length votes → s < (get_or votes j d).place
