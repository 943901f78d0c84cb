-- The part that an acceptor answers with reports its record.
use Rattle.std.proofs.Common.{◌≡◌, ℕ, zero, suc, ◌-◌, ◌<◌, ◌≤◌, nat_le, nat_lt, true, false, List, [], ◌∷◌, length, take, None, All, Contains, refl, arith, get_or, drop}
use Rattle.std.proofs.lemmas.Bool.Decides.{nat_tests}
use Rattle.std.proofs.lemmas.List.{take_all}
use Rattle.std.proofs.lemmas.Grind.{common_steps}
use Rattle.std.proofs.lemmas.Option.{gets}
use Rattle.std.proofs.lemmas.List.Elements.{All-contains, All-contains_itself, All-filter, filter_passes}
use Rattle.paxos_msg.specs.Batches.{Record, Vote}
use Rattle.paxos_msg.specs.Messages.{AreAbove, IsAscending, kept_vote_at}
use Rattle.paxos_msg.specs.Sending.{IsReport}
use Rattle.paxos_acceptor.specs.Answers.{place_after, upto_of}
use Rattle.paxos_msg.specs.Places.{votes_from}
use Rattle.std.specs.List.Sorted.{IsNonDecreasingBy, IsPartitionPoint}

-- ---- the votes from a place on are the rest of votes that ascend

-- of votes above a place, each is
above_at : (votes : List Vote) (s i : ℕ) (d : Vote) → AreAbove s votes → i < length votes → s < (get_or votes i d).place
above_at [] s i d h k = absurd (omega arith)
above_at (x ∷ xs) s zero d h k = h.0
above_at (x ∷ xs) s (suc i) d h k = above_at xs s i d h.1 (omega arith)

-- the places rise with the index
pub places_rise : (votes : List Vote) → IsAscending votes → IsNonDecreasingBy (λ vote. vote.place) votes
places_rise [] h i j d le k = absurd (omega arith)
places_rise (x ∷ xs) h zero j d le k = grind (arith, above_at xs x.place (j - 1) d h.0)
places_rise (x ∷ xs) h (suc i) j d le k = grind (arith, places_rise xs h.1 i (j - 1) d)

-- the votes from the index on, at which their places are no more below this one
pub dropped_at : (votes : List Vote) (from i : ℕ) → i ≤ length votes
    → IsPartitionPoint (λ vote. nat_lt vote.place from ≡ true) (λ vote. nat_lt vote.place from ≡ false) votes i
    → drop i votes ≡ votes_from from votes
dropped_at [] from zero k parted = refl
dropped_at [] from (suc i) k parted = refl
dropped_at (x ∷ xs) from zero k parted =
    let above = λ (j : ℕ) (d : Vote). parted.1 (suc j) d in
    grind (arith, nat_tests, parted.1 0 x, above, dropped_at xs from zero)
dropped_at (x ∷ xs) from (suc i) k parted =
    let below = λ (j : ℕ) (d : Vote). parted.0 (suc j) d in
    let above = λ (j : ℕ) (d : Vote). parted.1 (suc j) d in
    grind (arith, nat_tests, parted.0 0 x, below, above, dropped_at xs from i)

-- ---- what they say

-- from there on they say what all say
said_from : (xs : List Vote) (from s : ℕ) → from ≤ s → kept_vote_at (votes_from from xs) s ≡ kept_vote_at xs s
said_from [] from s h = refl
said_from (x ∷ xs) from s h = grind (arith, nat_tests, said_from xs from s h)

-- they are above what all are above, and ascend where all do
above_from : (xs : List Vote) (from s : ℕ) → AreAbove s xs → AreAbove s (votes_from from xs)
above_from [] from s h = tt
above_from (x ∷ xs) from s h =
    grind (arith, above_from xs from s h.1)

ascending_from : (xs : List Vote) (from : ℕ) → IsAscending xs → IsAscending (votes_from from xs)
ascending_from [] from h = tt
ascending_from (x ∷ xs) from h =
    grind (arith, above_from xs from x.place h.0, ascending_from xs from h.1)

-- each is at the place or after it
places_from : (xs : List Vote) (from : ℕ) (vote : Vote) → Contains (votes_from from xs) vote → from ≤ vote.place
places_from xs from vote h =
    grind (arith, filter_passes)

-- ---- the first of them

-- what is among the first of those from a place on is among those, and among all
first_in : (n : ℕ) (xs : List Vote) (vote : Vote) → Contains (take n xs) vote → Contains xs vote
first_in n xs vote h = grind (arith, common_steps)

from_in : (xs : List Vote) (from : ℕ) (vote : Vote) → Contains (votes_from from xs) vote → Contains xs vote
from_in xs from vote h =
    All-contains (Contains xs) (votes_from from xs) vote
    (All-filter (λ x. nat_le from x.place) (Contains xs) xs (All-contains_itself xs)) h

none_above : (xs : List Vote) (p s : ℕ) → s ≤ p → AreAbove p xs → kept_vote_at xs s ≡ None
none_above [] p s h above = refl
none_above (x ∷ xs) p s h above = grind (arith, nat_tests, none_above xs p s h above.1)

-- before the place after the last of them, the first votes say what all say
cut : (n : ℕ) (xs : List Vote) (s : ℕ) → IsAscending xs → s < place_after (take (suc n) xs)
    → kept_vote_at (take (suc n) xs) s ≡ kept_vote_at xs s
cut n [] s up h = refl
cut zero (x ∷ xs) s up h = grind (arith, nat_tests, none_above xs x.place s)
cut (suc n) (x ∷ xs) s up h = grind (arith, nat_tests, cut n xs s up.1)

-- and they are all before it
before_end : (n : ℕ) (xs : List Vote) → IsAscending xs → All (λ vote. vote.place < place_after (take n xs)) (take n xs)
before_end n xs up = λ k d lt. grind (arith, common_steps, gets, places_rise xs up k (length (take n xs) - 1) d)

-- the first 8 votes from a place on report the record up to there
pub reports : (r : Record) (from : ℕ) → IsAscending r.votes → All (λ vote. vote.place ≤ 65535) r.votes
    → IsReport r from (upto_of (votes_from from r.votes)) (take 8 (votes_from from r.votes))
reports r from up places =
    let rest : List Vote = votes_from from r.votes in
    let rest_up = ascending_from r.votes from up in
    record {
      own = λ vote h. from_in r.votes from vote (first_in 8 rest vote h);
      within = λ vote h.
          let there = first_in 8 rest vote h in
          let ends = before_end 8 rest rest_up in
          grind (arith, nat_tests, there, ends, places_from r.votes from vote, from_in r.votes from vote, All-contains);
      whole = λ s low high. grind (arith, nat_tests, cut 7 rest s, take_all 8 rest, said_from r.votes from s);
    }
