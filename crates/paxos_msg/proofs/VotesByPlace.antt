-- Votes by place: what is found after one more, the order that it keeps, and what a search in that order finds.
use Rattle.std.proofs.Common.{◌≡◌, ◌≢◌, ◌-◌, ℕ, zero, suc, ◌<◌, ◌≤◌, List, [], ◌∷◌, length, get_or, set, Some, None, Result, Ok, Err, IfOk, IfErr, refl, sym, arith, if◌then◌else◌, eqb, Contains}
use Rattle.std.specs.List.{insert}
use Rattle.std.specs.List.Sorted.{IsSearchInRange, IsBinarySearchResult, IsNonDecreasingBy}
use Rattle.std.specs.Ordering.{nat_cmp, ordering_index}
use Rattle.std.proofs.lemmas.Cmp.{ranked}
use Rattle.std.proofs.lemmas.Bool.{cases_lt, ne_eqb}
use Rattle.std.proofs.lemmas.Bool.Decides.{nat_tests}
use Rattle.paxos_msg.specs.Batches.{Vote}
use Rattle.paxos_msg.specs.Messages.{AreAbove, IsAscending, kept_vote_at}
use Rattle.paxos_msg.specs.Places.{IsGapIn, IsPlaceIn}
use Rattle.paxos_msg.specs.Records.{with_vote}
use Rattle.std.proofs.lemmas.List.Elements.{Contains-append_right}

-- ---- votes after one more

-- after a vote is put, the vote at its place is that one, and at each other place the one before
pub vote_after : (votes : List Vote) (vote : Vote) (s : ℕ)
    → kept_vote_at (with_vote votes vote) s ≡ (if eqb s vote.place then Some vote else kept_vote_at votes s)
vote_after [] vote s = grind (arith, nat_tests)
vote_after (x ∷ xs) vote s = grind (arith, nat_tests, vote_after xs vote s)

pub vote_at-with_vote_same : (votes : List Vote) (vote : Vote) → kept_vote_at (with_vote votes vote) vote.place ≡ Some vote
vote_at-with_vote_same votes vote = grind (arith, nat_tests, vote_after votes vote vote.place)

-- a vote that is found is one of the votes, and at the place
pub vote_found : (votes : List Vote) (s : ℕ) (vote : Vote) → kept_vote_at votes s ≡ Some vote → Contains votes vote × (vote.place ≡ s)
vote_found [] s vote e = cc
vote_found (x ∷ xs) s vote e =
    grind (arith, nat_tests, Contains-append_right (x ∷ []) xs vote, vote_found xs s vote)

-- ---- votes in ascending order of place

-- of votes above a place, each is
above_at : (votes : List Vote) (s i : ℕ) (d : Vote) → AreAbove s votes → i < length votes → s < (get_or votes i d).place
above_at [] s i d h k = absurd (omega arith)
above_at (x ∷ xs) s i d h k = grind (arith, above_at xs s (i - 1) d h.1)

-- the places rise with the index
places_rise : (votes : List Vote) (i j : ℕ) (d : Vote) → IsAscending votes → i < j → j < length votes
    → (get_or votes i d).place < (get_or votes j d).place
places_rise [] i j d h lt k = absurd (omega arith)
places_rise (x ∷ xs) i j d h lt k = grind (arith, above_at xs x.place (j - 1) d h.0, places_rise xs (i - 1) (j - 1) d h.1)

-- what is above a place is above each smaller one
above_less : (votes : List Vote) (s t : ℕ) → t ≤ s → AreAbove s votes → AreAbove t votes
above_less [] s t h k = tt
above_less (x ∷ xs) s t h k = grind (arith, k.0, above_less xs s t h k.1)

-- with a vote above a place, all are above it still
above_with : (votes : List Vote) (vote : Vote) (s : ℕ) → s < vote.place → AreAbove s votes → AreAbove s (with_vote votes vote)
above_with [] vote s h k = (h, tt)
above_with (x ∷ xs) vote s h k = grind (arith, nat_tests, above_with xs vote s h k.1, k.0, k.1)

-- putting a vote keeps the order
pub ascending_with : (votes : List Vote) (vote : Vote) → IsAscending votes → IsAscending (with_vote votes vote)
ascending_with [] vote h = (tt, tt)
ascending_with (x ∷ xs) vote h = grind (arith, nat_tests, cases_lt, above_less, above_with, ascending_with xs vote h.1)

-- the comparisons with a place rise along the votes, as a binary search asks
comparisons_rise : (votes : List Vote) (s : ℕ) → IsAscending votes
    → IsNonDecreasingBy (λ vote. ordering_index (nat_cmp vote.place s)) votes
comparisons_rise votes s h i j d le lt = grind (arith, nat_tests, cases_lt i j, places_rise votes i j d h)

-- a binary search by place ends at the place, or at the gap for it
pub searched : (votes : List Vote) (s : ℕ) → IsAscending votes → (r : Result ℕ ℕ)
    → IsSearchInRange r (length votes) → IsBinarySearchResult (λ vote. nat_cmp vote.place s) votes r
    → record { found : IfOk r (IsPlaceIn votes s); absent : IfErr r (IsGapIn votes s) }
searched votes s h (Ok at) in_range equal = record {
  found = record {
    in_range = in_range;
    same = λ d. ranked _ s _ (sym (equal d));
    before = λ j d lt. rw (← ranked _ s _ (sym (equal d))) (places_rise votes j at d h lt in_range);
  };
  absent = tt;
}
searched votes s h (Err at) in_range parted = record {
  found = tt;
  absent = record {
    in_range = in_range;
    before = λ j d lt. ranked _ s _ (sym ((parted (comparisons_rise votes s h)).0 j d (omega arith) lt));
    after = λ j d le lt. ranked _ s _ (sym ((parted (comparisons_rise votes s h)).1 j d le lt));
  };
}

-- one index further in a list is the same index in its rest
place_later : (x : Vote) (xs : List Vote) (s i : ℕ) → IsPlaceIn (x ∷ xs) s (suc i) → IsPlaceIn xs s i
place_later x xs s i h =
    record { in_range = omega (arith, h.in_range); same = h.same; before = λ j d lt. h.before (suc j) d (omega arith) }

gap_after : (x : Vote) (xs : List Vote) (s i : ℕ) → IsGapIn (x ∷ xs) s (suc i) → IsGapIn xs s i
gap_after x xs s i h = record {
  in_range = omega (arith, h.in_range);
  before = λ j d lt. h.before (suc j) d (omega arith);
  after = λ j d le lt. h.after (suc j) d (omega arith) (omega arith);
}

-- the vote at the index of the place is the one at the place
pub vote_there : (votes : List Vote) (s i : ℕ) (d : Vote) → IsPlaceIn votes s i → kept_vote_at votes s ≡ Some (get_or votes i d)
vote_there [] s i d h = absurd (omega (arith, h.in_range))
vote_there (x ∷ xs) s zero d h = grind (arith, nat_tests, h.same d)
vote_there (x ∷ xs) s (suc i) d h = grind (arith, nat_tests, h.before 0 d, vote_there xs s i d (place_later x xs s i h))

-- of votes at other places, none is at the place
none_at : (votes : List Vote) (s : ℕ) → ((j : ℕ) (d : Vote) → j < length votes → (get_or votes j d).place ≢ s) → kept_vote_at votes s ≡ None
none_at [] s others = refl
none_at (x ∷ xs) s others = rw (ne_eqb x.place s (others 0 x (omega arith))) (none_at xs s (λ j d lt. others (suc j) d (omega arith)))

-- at the index where the place would be there is no vote for it
pub none_there : (votes : List Vote) (s i : ℕ) → IsGapIn votes s i → kept_vote_at votes s ≡ None
none_there votes s i h = none_at votes s (λ j d lt. grind (arith, h.before j d, h.after j d))

-- a vote is put over the one at its place
pub put_over : (votes : List Vote) (i : ℕ) (vote : Vote) → IsPlaceIn votes vote.place i → set votes i vote ≡ with_vote votes vote
put_over [] i vote h = absurd (omega (arith, h.in_range))
put_over (x ∷ xs) zero vote h = grind (arith, nat_tests, h.same x)
put_over (x ∷ xs) (suc i) vote h = grind (arith, nat_tests, h.before 0 x, put_over xs i vote (place_later x xs vote.place i h))

-- or into the gap for its place
pub put_between : (votes : List Vote) (i : ℕ) (vote : Vote) → IsGapIn votes vote.place i → insert votes i vote ≡ with_vote votes vote
put_between [] zero vote h = refl
put_between [] (suc i) vote h = absurd (omega (arith, h.in_range))
put_between (x ∷ xs) zero vote h = grind (arith, nat_tests, h.after 0 x)
put_between (x ∷ xs) (suc i) vote h = grind (arith, nat_tests, h.before 0 x, put_between xs i vote (gap_after x xs vote.place i h))
