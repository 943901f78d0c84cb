-- What is kept at a place after votes were reported.
use Rattle.std.proofs.Common.{◌≡◌, ℕ, ◌+◌, ◌<◌, ◌≤◌, ◌==◌, ◌&&◌, nat_le, if◌then◌else◌, List, [], ◌∷◌, Option, Some, None, refl, arith}
use Rattle.std.proofs.lemmas.Bool.Decides.{nat_tests}
use Rattle.paxos_msg.specs.declared.ballot.Ballot.{Ballot}
use Rattle.paxos_msg.specs.Batches.{Vote}
use Rattle.paxos_msg.specs.Fits.{AreVotes}
use Rattle.paxos_msg.specs.Messages.{AreAbove, IsAscending, kept_vote_at}
use Rattle.paxos_msg.specs.Records.{with_vote}
use Rattle.paxos_proposer.specs.Proposer.{greater, heard, heard_one}

-- the vote to keep after this report, or none
abbrev pub merged : Option Vote → Option Vote → Option Vote
merged kept None = kept
merged kept (Some vote) = Some (greater kept vote)

-- ---- what is found at a place

-- a vote that is put at its place is found there, and nothing changes elsewhere
pub vote_at-with_vote : (votes : List Vote) (vote : Vote) (s : ℕ)
    → kept_vote_at (with_vote votes vote) s ≡ (if vote.place == s then Some vote else kept_vote_at votes s)
vote_at-with_vote [] vote s = refl
vote_at-with_vote (x ∷ xs) vote s = grind (arith, nat_tests, vote_at-with_vote xs vote s)

-- a vote that is found at a place has it
pub found_place : (votes : List Vote) (s : ℕ) (vote : Vote) → kept_vote_at votes s ≡ Some vote → vote.place ≡ s
found_place [] s vote e = absurd cc
found_place (x ∷ xs) s vote e = grind (arith, nat_tests, found_place xs s vote)

-- no vote above a place is at it
pub none_above : (votes : List Vote) (s : ℕ) → AreAbove s votes → kept_vote_at votes s ≡ None
none_above [] s h = refl
none_above (x ∷ xs) s h = grind (arith, nat_tests, none_above xs s h.1)

-- ---- the votes of a part

-- votes from a place on are above each smaller one
all_above : (size : ℕ) (b : Ballot) (low upto s : ℕ) (votes : List Vote) → s < low → AreVotes size b low upto votes → AreAbove s votes
all_above size b low upto s [] lt h = tt
all_above size b low upto s (x ∷ xs) lt h = grind (arith, all_above size b (x.place + 1) upto s xs)

-- the votes of a part ascend
pub are_ascending : (size : ℕ) (b : Ballot) (low upto : ℕ) (votes : List Vote) → AreVotes size b low upto votes → IsAscending votes
are_ascending size b low upto [] h = tt
are_ascending size b low upto (x ∷ xs) h =
    grind (arith, all_above size b (x.place + 1) upto x.place xs, are_ascending size b (x.place + 1) upto xs h.1)

-- each is below the part's end
pub none_upto : (size : ℕ) (b : Ballot) (low upto s : ℕ) (votes : List Vote) → upto ≤ s → AreVotes size b low upto votes
    → kept_vote_at votes s ≡ None
none_upto size b low upto s [] le h = refl
none_upto size b low upto s (x ∷ xs) le h =
    grind (arith, nat_tests, none_upto size b (x.place + 1) upto s xs le h.1)

-- ---- what is kept

-- below low nothing changes, and from there on the greater of what was kept at a place and of what is reported there is kept
one_at : (low s : ℕ) (kept : List Vote) (vote : Vote) → kept_vote_at (heard_one low kept vote) s
    ≡ (if nat_le low s && vote.place == s then Some (greater (kept_vote_at kept s) vote) else kept_vote_at kept s)
one_at low s kept vote = grind (arith, nat_tests, vote_at-with_vote, found_place)

pub heard_at : (low s : ℕ) (kept votes : List Vote) → IsAscending votes → kept_vote_at (heard low kept votes) s
    ≡ (if nat_le low s then merged (kept_vote_at kept s) (kept_vote_at votes s) else kept_vote_at kept s)
heard_at low s kept [] h = grind (arith, nat_tests)
heard_at low s kept (x ∷ xs) h =
    grind (arith, nat_tests, heard_at low s (heard_one low kept x) xs h.1, one_at low s kept x, none_above xs x.place)
