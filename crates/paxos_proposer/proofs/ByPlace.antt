-- Votes in ascending order of place are known by what is found at each place.
use Rattle.std.proofs.Common.{◌≡◌, ℕ, ◌+◌, ◌<◌, ◌≤◌, nat_eq, cond, List, [], ◌∷◌, Some, None, option_map, refl, arith}
use Rattle.std.specs.Prelude.{All}
use Rattle.std.specs.Map.{lookup}
use Rattle.std.proofs.lemmas.Bool.Decides.{nat_tests}
use Rattle.paxos_msg.specs.Batches.{Vote}
use Rattle.paxos_msg.specs.Messages.{AreAbove, IsAscending, kept_vote_at}
use Rattle.paxos_msg.specs.Records.{with_vote}
use Rattle.paxos_proposer.specs.declared.kept.Report.{Report}
use Rattle.paxos_proposer.specs.KeptVotes.{vote_of, reported_votes}
use Rattle.paxos_msg.specs.Places.{votes_from}
use Rattle.paxos_proposer.proofs.PassedVotes.{found_all, left_at, left_from}
use Rattle.paxos_proposer.proofs.Reported.{found_place, none_above, vote_at-with_vote}

-- ---- what is found at a place

-- the votes have at a place what a search of the reports finds
pub vote_at-votes_of : (es : List (ℕ × Report)) (s : ℕ) → kept_vote_at (reported_votes es) s ≡ option_map (vote_of s) (lookup (nat_eq s) es)
vote_at-votes_of [] s = refl
vote_at-votes_of (e ∷ es) s = grind (arith, nat_tests, vote_at-with_vote, vote_at-votes_of es s)

-- ---- ascending order

above_less : (low s : ℕ) (votes : List Vote) → low ≤ s → AreAbove s votes → AreAbove low votes
above_less low s [] le h = tt
above_less low s (x ∷ xs) le h = grind (arith, above_less low s xs le h.1)

above_with : (s : ℕ) (votes : List Vote) (vote : Vote) → s < vote.place → AreAbove s votes → AreAbove s (with_vote votes vote)
above_with s [] vote lt h = (lt, tt)
above_with s (x ∷ xs) vote lt h = grind (arith, nat_tests, above_with s xs vote lt h.1)

ascending_with : (votes : List Vote) (vote : Vote) → IsAscending votes → IsAscending (with_vote votes vote)
ascending_with [] vote h = (tt, tt)
ascending_with (x ∷ xs) vote h =
    grind (arith, nat_tests, above_less, above_with, ascending_with xs vote h.1)

ascending_of : (es : List (ℕ × Report)) → IsAscending (reported_votes es)
ascending_of [] = tt
ascending_of (e ∷ es) = ascending_with (reported_votes es) (vote_of e.0 e.1) (ascending_of es)

above_left : (s n : ℕ) (votes : List Vote) → AreAbove s votes → AreAbove s (votes_from n votes)
above_left s n [] h = tt
above_left s n (x ∷ xs) h = grind (arith, nat_tests, above_left s n xs h.1)

ascending_left : (n : ℕ) (votes : List Vote) → IsAscending votes → IsAscending (votes_from n votes)
ascending_left n [] h = tt
ascending_left n (x ∷ xs) h = grind (arith, nat_tests, above_left, ascending_left n xs h.1)

-- ---- votes that agree at each place

same_votes : (xs ys : List Vote) → IsAscending xs → IsAscending ys → ((s : ℕ) → kept_vote_at xs s ≡ kept_vote_at ys s) → xs ≡ ys
same_votes [] [] h k same = refl
same_votes [] (y ∷ ys) h k same = grind (arith, nat_tests, same y.place)
same_votes (x ∷ xs) [] h k same = grind (arith, nat_tests, same x.place)
same_votes (x ∷ xs) (y ∷ ys) h k same =
    let e : x.place ≡ y.place =
    grind (
      arith,
      nat_tests,
      same x.place,
      same y.place,
      none_above (x ∷ xs) y.place,
      none_above (y ∷ ys) x.place,
      above_less y.place x.place xs,
      above_less x.place y.place ys,
    ) in
    let first : x ≡ y = grind (arith, nat_tests, same x.place) in
    let rest = same_votes xs ys h.1 k.1 (λ s. grind (arith, nat_tests, same s, none_above xs s, none_above ys s)) in
    λ i. first i ∷ rest i

-- ---- the reports with one more, or without one

-- reports that differ at one place make votes that differ there
pub votes_of-put : (es fs : List (ℕ × Report)) (s : ℕ) (r : Report)
    → ((q : ℕ) → lookup (nat_eq q) fs ≡ cond (nat_eq s q) (Some r) (lookup (nat_eq q) es))
    → reported_votes fs ≡ with_vote (reported_votes es) (vote_of s r)
votes_of-put es fs s r put =
    grind (arith, same_votes, ascending_of, ascending_with, vote_at-with_vote, vote_at-votes_of)

-- where all are from a place on, none is below it
none_below : (s q : ℕ) (votes : List Vote) → q < s → All (λ vote. s ≤ vote.place) votes → kept_vote_at votes q ≡ None
none_below s q votes lt h = grind (arith, nat_tests, found_all (λ vote. s ≤ vote.place) votes q, found_place votes q)

-- reports that lack the first place make the votes above it
pub votes_of-cut : (es fs : List (ℕ × Report)) (s : ℕ) → ((q : ℕ) → lookup (nat_eq q) fs ≡ cond (nat_eq s q) None (lookup (nat_eq q) es))
    → All (λ vote. s ≤ vote.place) (reported_votes es) → reported_votes fs ≡ votes_from (s + 1) (reported_votes es)
votes_of-cut es fs s cut from =
    grind (arith, same_votes, ascending_of, ascending_left, none_below, left_from, vote_at-votes_of, left_at)
