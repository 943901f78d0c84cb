-- Dropping the votes that a proposer has passed.
use Rattle.std.proofs.Common.{◌≡◌, ℕ, ◌≤◌, List, [], ◌∷◌, Some, refl, arith}
use Rattle.std.specs.Prelude.{All}
use Rattle.std.proofs.lemmas.Bool.{leb-true}
use Rattle.std.proofs.lemmas.Bool.Decides.{nat_tests}
use Rattle.std.proofs.lemmas.List.Elements.{All-cons, All-head, All-tail, All-weaker, filter_passes}
use Rattle.paxos_msg.specs.Batches.{Vote}
use Rattle.paxos_msg.specs.Messages.{kept_vote_at}
use Rattle.paxos_msg.specs.Records.{with_vote}
use Rattle.paxos_proposer.specs.Proposer.{heard, heard_one}
use Rattle.paxos_msg.specs.Places.{votes_from}

-- ---- what is left from a place on

-- what is left is from the place on
pub left_from : (s : ℕ) (votes : List Vote) → All (λ vote. s ≤ vote.place) (votes_from s votes)
left_from s votes = grind (arith, nat_tests, All-weaker, leb-true, filter_passes)

-- from the place on there are the votes that there were
pub left_at : (n s : ℕ) (votes : List Vote) → n ≤ s → kept_vote_at (votes_from n votes) s ≡ kept_vote_at votes s
left_at n s [] low = refl
left_at n s (x ∷ xs) low = grind (arith, nat_tests, left_at n s xs low)

-- ---- what holds of all votes that are kept

module _ (P : Vote → Type 0) where
  -- it holds of a vote that is found
  pub found_all : (votes : List Vote) (s : ℕ) (vote : Vote) → kept_vote_at votes s ≡ Some vote → All P votes → P vote
  found_all [] s vote e h = absurd cc
  found_all (x ∷ xs) s vote e h = grind (arith, nat_tests, found_all xs s vote, All-head P x xs h, All-tail P x xs h)

  -- and of all with one more
  with_all : (votes : List Vote) (vote : Vote) → P vote → All P votes → All P (with_vote votes vote)
  with_all [] vote p h = All-cons P vote [] p h
  with_all (x ∷ xs) vote p h =
      let others = All-tail P x xs h in
      grind (arith, nat_tests, All-cons P, All-head P x xs h, others, with_all xs vote p others)

  one_all : (low : ℕ) (kept : List Vote) (vote : Vote) → All P kept → (low ≤ vote.place → P vote) → All P (heard_one low kept vote)
  one_all low kept vote h p = grind (arith, nat_tests, with_all, found_all)

  -- and after votes are heard, if it holds of those from low on
  pub heard_all : (low : ℕ) (kept votes : List Vote) → All P kept → All (λ vote. low ≤ vote.place → P vote) votes
      → All P (heard low kept votes)
  heard_all low kept [] h k = h
  heard_all low kept (x ∷ xs) h k =
      let Q : Vote → Type 0 = λ vote. low ≤ vote.place → P vote in
      heard_all low (heard_one low kept x) xs (one_all low kept x h (All-head Q x xs k)) (All-tail Q x xs k)

-- what is heard from low on is from each place on that is not above low
pub ahead_heard : (next low : ℕ) (kept votes : List Vote) → next ≤ low → All (λ vote. next ≤ vote.place) kept
    → All (λ vote. next ≤ vote.place) (heard low kept votes)
ahead_heard next low kept votes le h = heard_all (λ vote. next ≤ vote.place) low kept votes h (λ k d less from. omega arith)
