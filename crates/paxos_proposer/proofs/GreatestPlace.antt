-- The greatest place that has a vote, as votes are put and passed.
use Rattle.std.proofs.Common.{◌≡◌, ℕ, ◌≤◌, nat_le, max, ◌||◌, List, [], ◌∷◌, refl, arith}
use Rattle.std.specs.Prelude.{All}
use Rattle.std.proofs.lemmas.Bool.{le-leb}
use Rattle.std.proofs.lemmas.Bool.Decides.{nat_tests}
use Rattle.std.proofs.lemmas.List.Elements.{All-head}
use Rattle.paxos_msg.specs.Batches.{Vote}
use Rattle.paxos_msg.specs.Records.{with_vote}
use Rattle.paxos_proposer.specs.Proposer.{is_kept_from}
use Rattle.paxos_msg.specs.Places.{votes_from}

-- a vote more counts up to its place
pub is_kept_from-with_vote : (votes : List Vote) (vote : Vote) (s : ℕ)
    → is_kept_from (with_vote votes vote) s ≡ nat_le s vote.place || is_kept_from votes s
is_kept_from-with_vote [] vote s = refl
is_kept_from-with_vote (x ∷ xs) vote s = grind (arith, nat_tests, is_kept_from-with_vote xs vote s)

-- what is left from a place on counts from there on
pub is_kept_from-votes_from : (votes : List Vote) (n s : ℕ) → is_kept_from (votes_from n votes) s ≡ is_kept_from votes (max n s)
is_kept_from-votes_from [] n s = refl
is_kept_from-votes_from (x ∷ xs) n s = grind (arith, nat_tests, is_kept_from-votes_from xs n s)

-- where all votes are from a place on, one is there or above it if there is any
pub any_from : (n : ℕ) (votes : List Vote) → All (λ vote. n ≤ vote.place) votes → is_kept_from votes n ≡ is_kept_from votes 0
any_from n [] h = refl
any_from n (x ∷ xs) h = grind (arith, nat_tests, le-leb, All-head)
