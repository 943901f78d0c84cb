-- A record in its ranges has its votes in order, and stays in them after a promise and after a vote.
use Rattle.std.proofs.Common.{◌≡◌, ℕ, ◌+◌, ◌<◌, ◌≤◌, List, [], ◌∷◌, All, arith}
use Rattle.std.proofs.lemmas.List.Elements.{All-cons}
use Rattle.std.proofs.lemmas.Bool.Decides.{nat_tests}
use Rattle.paxos_msg.specs.declared.ballot.Ballot.{Ballot}
use Rattle.paxos_msg.specs.declared.value.Value.{Value}
use Rattle.paxos_msg.specs.Batches.{Record, Vote}
use Rattle.paxos_msg.specs.declared.record.Change.TheVariants.{Promise, Ballotted}
use Rattle.paxos_msg.specs.Ballots.{IsAtMost}
use Rattle.paxos_msg.specs.Fits.{IsBallot, IsPlace, IsValue, IsVote, AreVotes}
use Rattle.paxos_msg.specs.Messages.{AreAbove, IsAscending}
use Rattle.paxos_msg.specs.Records.{changed, with_vote}
use Rattle.paxos_acceptor.specs.Records.{IsNext, IsRecord}

module _ (size : ℕ) (b : Ballot) where
  -- votes in their ranges are so under each greater ballot
  all_raised : (p : Ballot) → IsAtMost p b → (votes : List Vote) (low : ℕ) → AreVotes size p low 65536 votes
      → AreVotes size b low 65536 votes
  all_raised p rises [] low h = tt
  all_raised p rises (x ∷ xs) low h = grind (arith, h.0.not_above, all_raised p rises xs (x.place + 1) h.1)

  -- one more vote leaves them in their ranges
  with_one : (votes : List Vote) (vote : Vote) (low : ℕ) → AreVotes size b low 65536 votes → IsVote size b low 65536 vote
      → AreVotes size b low 65536 (with_vote votes vote)
  with_one [] vote low h k = (k, tt)
  with_one (x ∷ xs) vote low h k = grind (arith, nat_tests, with_one xs vote (x.place + 1) h.1)

  -- votes from a place on are above each smaller place
  above_low : (votes : List Vote) (s low : ℕ) → s < low → AreVotes size b low 65536 votes → AreAbove s votes
  above_low [] s low below h = tt
  above_low (x ∷ xs) s low below h = grind (arith, above_low xs s (x.place + 1))

  -- so they ascend
  ascending : (votes : List Vote) (low : ℕ) → AreVotes size b low 65536 votes → IsAscending votes
  ascending [] low h = tt
  ascending (x ∷ xs) low h = grind (arith, above_low xs x.place (x.place + 1), ascending xs (x.place + 1) h.1)

  -- and are at places that there are
  within : (votes : List Vote) (low : ℕ) → AreVotes size b low 65536 votes → All (λ vote. vote.place ≤ 65535) votes
  within [] low h = λ k d lt. absurd (omega arith)
  within (x ∷ xs) low h =
      All-cons (λ vote. vote.place ≤ 65535) x xs (omega (arith, h.0.below_upto)) (within xs (x.place + 1) h.1)

-- ---- what an acceptor knows of its record

-- its votes are in order
pub record_in_order : (size : ℕ) (r : Record) → IsRecord size r → IsAscending r.votes
record_in_order size r h = grind (arith, ascending)

-- what a store has that is the same is in order too
pub stored_in_order : (size : ℕ) (r stored : Record) → IsRecord size r → stored ≡ r → IsAscending stored.votes
stored_in_order size r stored h e = rw e (record_in_order size r h)

-- they are at places that there are
pub record_within : (size : ℕ) (r : Record) → IsRecord size r → All (λ vote. vote.place ≤ 65535) r.votes
record_within size r h = grind (arith, within)

-- ---- what a change leaves

-- a promise of no smaller ballot than the promised one keeps a record in its ranges
pub promise_in_ranges : (size : ℕ) (r : Record) (b : Ballot) → IsNext r (Promise b) → IsBallot size b
    → IsRecord size r → IsRecord size (changed r (Promise b))
promise_in_ranges size r b rises ballot h = grind (arith, all_raised)

-- so does a vote under such a ballot
pub vote_in_ranges : (size : ℕ) (r : Record) (b : Ballot) (s : ℕ) (v : Value) → IsNext r (Ballotted s b v)
    → IsBallot size b → IsPlace s → IsValue size v → IsRecord size r → IsRecord size (changed r (Ballotted s b v))
vote_in_ranges size r b s v rises ballot place value h = grind (arith, with_one, promise_in_ranges)
