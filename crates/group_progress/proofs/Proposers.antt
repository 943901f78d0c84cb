-- What a proposer keeps of reports that lie below a place, and how far it pumps.
use Rattle.std.proofs.Common.{◌≡◌, ◌≢◌, inl, inr, ℕ, zero, suc, ◌+◌, ◌-◌, ◌<◌, ◌≤◌, ◌==◌, max, nat_le, nat_lt, Bool, List, [], ◌∷◌, length, Option, Some, None, IfSome, slice_get, refl, sym, ap, subst, arith, true, take, filter}
use Rattle.std.specs.List.{AllByRecursion as EachOf, list_any}
use Rattle.std.proofs.lemmas.Bool.Decides.{nat_tests}
use Rattle.std.proofs.lemmas.Bool.{and_from, cond_both, le-leb, lt-ltb, leb-true, ltb-true, or_cases}
use Rattle.std.proofs.lemmas.List.{get_or-set_same, get_or-set_other, length-set}
use Rattle.paxos_msg.specs.declared.limits.TheConstants.{MOST_VOTES, PLACES}
use Rattle.paxos_msg.specs.declared.ballot.Ballot.{Ballot}
use Rattle.paxos_msg.specs.Batches.{Vote}
use Rattle.paxos_msg.specs.Fits.{AreVotes}
use Rattle.paxos_msg.specs.Messages.{kept_vote_at}
use Rattle.paxos_msg.specs.Places.{votes_from}
use Rattle.paxos_msg.specs.Records.{with_vote}
use Rattle.paxos_msg.specs.Tests.{ballot_lt}
use Rattle.std.specs.Option.{option_map_or}
use Rattle.paxos_acceptor.specs.Records.{AreKept}
use Rattle.paxos_acceptor.specs.Answers.{place_after, upto_of}
use Rattle.paxos_proposer.specs.Proposer.{Proposer, coverage_of, greater, heard, heard_one, is_kept_from, next_of, proposer_after_part, rises}

-- ---- votes below a place

abbrev pub AreBelow : ℕ → List Vote → Type 0
AreBelow top votes = EachOf (λ (vote : Vote). vote.place < top) votes

pub below_filter : (top : ℕ) (test : Vote → Bool) (votes : List Vote) → AreBelow top votes → AreBelow top (filter test votes)
below_filter top test [] h = tt
below_filter top test (x ∷ xs) (first, rest) =
    let more = below_filter top test xs rest in
    cond_both (test x) (x ∷ filter test xs) (filter test xs) (AreBelow top) (λ e. (first, more)) (λ e. more)

pub below_take : (top n : ℕ) (votes : List Vote) → AreBelow top votes → AreBelow top (take n votes)
below_take top zero votes h = tt
below_take top (suc n) [] h = tt
below_take top (suc n) (x ∷ xs) (first, rest) = (first, below_take top n xs rest)

below_put : (top : ℕ) (votes : List Vote) (vote : Vote) → AreBelow top votes → vote.place < top → AreBelow top (with_vote votes vote)
below_put top [] vote h less = (less, tt)
below_put top (x ∷ xs) vote (first, rest) less =
    cond_both (nat_lt vote.place x.place) _ _ (AreBelow top) (λ e. (less, (first, rest)))
    (λ e. cond_both (x.place == vote.place) _ _ (AreBelow top) (λ e. (less, rest)) (λ e. (first, below_put top xs vote rest less)))

below_found : (top s : ℕ) (votes : List Vote) → AreBelow top votes → IfSome (kept_vote_at votes s) (λ vote. vote.place < top)
below_found top s [] h = tt
below_found top s (x ∷ xs) (first, rest) =
    cond_both (x.place == s) _ _ (λ o. IfSome o (λ (vote : Vote). vote.place < top)) (λ e. first) (λ e. below_found top s xs rest)

below_greater : (top : ℕ) (o : Option Vote) (vote : Vote) → IfSome o (λ kept. kept.place < top) → vote.place < top →
    (greater o vote).place < top
below_greater top None vote h less = less
below_greater top (Some kept) vote h less =
    cond_both (ballot_lt kept.ballot vote.ballot) vote kept (λ (x : Vote). x.place < top) (λ e. less) (λ e. h)

below_heard : (top low : ℕ) (kept votes : List Vote) → AreBelow top kept → AreBelow top votes → AreBelow top (heard low kept votes)
below_heard top low kept [] h all = h
below_heard top low kept (x ∷ xs) h (first, rest) =
    let put = below_put top kept (greater (kept_vote_at kept x.place) x) h
    (below_greater top (kept_vote_at kept x.place) x (below_found top x.place kept h) first) in
    below_heard top low (heard_one low kept x) xs
    (cond_both (nat_le low x.place) (with_vote kept (greater (kept_vote_at kept x.place) x)) kept (AreBelow top) (λ e. put) (λ e. h)) rest

-- what is kept at a place or above it lies below
pub kept_below : (top s : ℕ) (votes : List Vote) → AreBelow top votes → is_kept_from votes s ≡ true → s < top
kept_below top s [] h e = absurd cc
kept_below top s (x ∷ xs) (first, rest) e =
    elim (or_cases (nat_le s x.place) (list_any (λ (vote : Vote). nat_le s vote.place) xs) e) [
      | inl here ↦ omega (arith, first, leb-true s x.place here)
      | inr there ↦ kept_below top s xs rest there
    ]

pub found_below : (top s : ℕ) (votes : List Vote) (vote : Vote) → AreBelow top votes → kept_vote_at votes s ≡ Some vote → s < top
found_below top s votes vote h e = kept_below top s votes h (by votes e) where
  by : (votes : List Vote) → kept_vote_at votes s ≡ Some vote → is_kept_from votes s ≡ true
  by [] e = absurd cc
  by (x ∷ xs) e = grind (arith, nat_tests, by xs)

-- ---- a part of a promise

-- the place after votes from a place on is above that one
last_above : (from : ℕ) (votes : List Vote) (vote : Vote) → EachOf (λ (x : Vote). from ≤ x.place) (vote ∷ votes)
    → from < place_after (vote ∷ votes)
last_above from [] vote (first, rest) = omega (arith, first)
last_above from (x ∷ xs) vote (first, rest) = grind (arith, nat_tests, last_above from xs x rest)

from_on : (from : ℕ) (votes : List Vote) → EachOf (λ (x : Vote). from ≤ x.place) (votes_from from votes)
from_on from [] = tt
from_on from (x ∷ xs) =
    let more = from_on from xs in
    cond_both (nat_le from x.place) (x ∷ votes_from from xs) (votes_from from xs) (EachOf (λ (x : Vote). from ≤ x.place))
    (λ e. (leb-true from x.place e, more)) (λ e. more)

from_take : (from n : ℕ) (votes : List Vote) → EachOf (λ (x : Vote). from ≤ x.place) votes
    → EachOf (λ (x : Vote). from ≤ x.place) (take n votes)
from_take from zero votes h = tt
from_take from (suc n) [] h = tt
from_take from (suc n) (x ∷ xs) (first, rest) = (first, from_take from n xs rest)

more_than : (from n : ℕ) (votes : List Vote) → 0 < n → n < length votes → EachOf (λ (x : Vote). from ≤ x.place) votes
    → from < place_after (take n votes)
more_than from zero votes some long h = absurd (omega (arith, some))
more_than from (suc n) [] some long h = absurd (omega (arith, long))
more_than from (suc n) (x ∷ xs) some long (first, rest) = last_above from (take n xs) x (first, from_take from n xs rest)

-- a part that reports from a place on reaches beyond it
pub reaches : (from : ℕ) (votes : List Vote) → from < PLACES → from < upto_of (votes_from from votes)
reaches from votes less =
    let vs : List Vote = votes_from from votes in
    cond_both (nat_lt MOST_VOTES (length vs)) (place_after (take MOST_VOTES vs)) PLACES (λ upto. from < upto)
    (λ e. more_than from MOST_VOTES vs (omega arith) (ltb-true MOST_VOTES (length vs) e) (from_on from votes)) (λ e. less)

-- the place after votes below a place is no higher
last_below : (top : ℕ) (votes : List Vote) (vote : Vote) → AreBelow top (vote ∷ votes) → place_after (vote ∷ votes) ≤ top
last_below top [] vote (first, rest) = omega (arith, first)
last_below top (x ∷ xs) vote (first, rest) = grind (arith, nat_tests, last_below top xs x rest)

after_below : (top : ℕ) (votes : List Vote) → AreBelow top votes → place_after votes ≤ top
after_below top [] h = omega arith
after_below top (x ∷ xs) h = last_below top xs x h

-- a part that does not reach the end reaches no further than the votes
pub reaches_votes : (from top : ℕ) (votes : List Vote) → AreBelow top votes → upto_of (votes_from from votes) < PLACES
    → upto_of (votes_from from votes) ≤ top
reaches_votes from top votes h =
    let vs : List Vote = votes_from from votes in
    cond_both (nat_lt MOST_VOTES (length vs)) (place_after (take MOST_VOTES vs)) PLACES (λ upto. upto < PLACES → upto ≤ top)
    (λ e less. after_below top (take MOST_VOTES vs) (below_take top MOST_VOTES vs
    (below_filter top (λ vote. nat_le from vote.place) votes h))) (λ e less. absurd (omega (arith, less)))

-- votes at ascending places from this one on
abbrev Ascend : ℕ → List Vote → Type 0
Ascend low [] = Unit {0}
Ascend low (x ∷ xs) = (low ≤ x.place) × Ascend (x.place + 1) xs

ascend_lower : (low high : ℕ) (votes : List Vote) → low ≤ high → Ascend high votes → Ascend low votes
ascend_lower low high [] less h = tt
ascend_lower low high (x ∷ xs) less (first, rest) = (omega (arith, less, first), rest)

ascend_filter : (low from : ℕ) (votes : List Vote) → Ascend low votes → Ascend low (votes_from from votes)
ascend_filter low from [] h = tt
ascend_filter low from (x ∷ xs) (first, rest) =
    let more = ascend_filter (x.place + 1) from xs rest in
    cond_both (nat_le from x.place) (x ∷ votes_from from xs) (votes_from from xs) (Ascend low) (λ e. (first, more))
    (λ e. ascend_lower low (x.place + 1) (votes_from from xs) (omega (arith, first)) more)

ascend_on : (low from : ℕ) (votes : List Vote) → EachOf (λ (x : Vote). from ≤ x.place) votes → Ascend low votes → Ascend from votes
ascend_on low from [] all h = tt
ascend_on low from (x ∷ xs) (here, all) (first, rest) = (here, rest)

ascend_kept : (size : ℕ) (o : Option Ballot) (votes : List Vote) → AreKept size o votes → Ascend 0 votes
ascend_kept size None votes e = subst (Ascend 0) (sym e) tt
ascend_kept size (Some b) votes (ballot, all) = by 0 votes all where
  by : (low : ℕ) (votes : List Vote) → AreVotes size b low PLACES votes → Ascend low votes
  by low [] h = tt
  by low (x ∷ xs) (first, rest) = (first.from_low, by (x.place + 1) xs rest)

after_more : (x y : Vote) (votes : List Vote) → place_after (x ∷ y ∷ votes) ≡ place_after (y ∷ votes)
after_more x y votes =
    let e : length (x ∷ y ∷ votes) - 1 ≡ suc (length (y ∷ votes) - 1) = omega arith in
    ap (λ k. option_map_or (λ (vote : Vote). vote.place + 1) (slice_get (x ∷ y ∷ votes) k) 0) e

-- so many votes take as many places
after_many : (low n : ℕ) (votes : List Vote) → Ascend low votes → n < length votes → low + suc n ≤ place_after (take (suc n) votes)
after_many low n [] h long = absurd (omega (arith, long))
after_many low zero (x ∷ xs) (first, rest) long = omega (arith, first)
after_many low (suc n) (x ∷ []) h long = absurd (omega (arith, long))
after_many low (suc n) (x ∷ y ∷ votes) (first, rest) long =
    let more = after_many (x.place + 1) n (y ∷ votes) rest (omega (arith, long)) in
    omega (arith, first, more, after_more x y (take n votes))

-- a part that does not reach the end reaches so many places on
pub reaches_many : (from size : ℕ) (o : Option Ballot) (votes : List Vote) → AreKept size o votes → upto_of (votes_from from votes) < PLACES
    → from + MOST_VOTES ≤ upto_of (votes_from from votes)
reaches_many from size o votes kept =
    let vs : List Vote = votes_from from votes in
    let ascent : Ascend from vs = ascend_on 0 from vs (from_on from votes) (ascend_filter 0 from votes (ascend_kept size o votes kept)) in
    cond_both (nat_lt MOST_VOTES (length vs)) (place_after (take MOST_VOTES vs)) PLACES (λ upto. upto < PLACES → from + MOST_VOTES ≤ upto)
    (λ e less. after_many from 7 vs ascent (omega (arith, ltb-true MOST_VOTES (length vs) e))) (λ e less. absurd (omega (arith, less)))

-- a part that begins where the coverage ends is taken
pub record Takes (p : Proposer) (j upto top : ℕ) (q : Proposer) : Type 0 where
  pub ballot : q.ballot ≡ p.ballot
  pub size : q.size ≡ p.size
  pub next : next_of q ≡ next_of p
  pub first : q.first ≡ p.first
  pub covers : coverage_of q j ≡ upto
  pub others : (i : ℕ) → i ≢ j → coverage_of q i ≡ coverage_of p i
  pub nodes : length q.coverages ≡ length p.coverages
  pub kept : AreBelow top q.kept

pub rises_on : (p : Proposer) (j first upto : ℕ) → coverage_of p j ≡ first → first < upto → rises p j first upto ≡ true
rises_on p j first upto e less = and_from _ _ (le-leb first (coverage_of p j) (omega (
  arith,
  e,
))) (lt-ltb (coverage_of p j) upto (omega (arith, e, less)))

pub takes : (p : Proposer) (j first upto top : ℕ) (votes : List Vote) → coverage_of p j ≡ first → first < upto
    → j < length p.coverages → AreBelow top p.kept → AreBelow top votes → Takes p j upto top (proposer_after_part p j first upto votes)
takes p j first upto top votes e less node kept all =
    let rise = rises_on p j first upto e less in record {
      ballot = rw rise refl;
      size = rw rise refl;
      next = rw rise refl;
      first = rw rise refl;
      covers = rw rise (get_or-set_same p.coverages j upto 0 node);
      others = λ i other. rw rise (get_or-set_other p.coverages j i upto 0 other);
      nodes = rw rise (length-set p.coverages j upto);
      kept = rw rise (below_heard top (max (coverage_of p j) (next_of p)) p.kept votes kept all);
    }
