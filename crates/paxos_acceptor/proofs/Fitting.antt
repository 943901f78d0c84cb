-- What an acceptor answers over a record in its ranges is in its ranges.
use Rattle.std.proofs.Common.{◌≡◌, ℕ, zero, suc, ◌+◌, ◌<◌, ◌≤◌, max, List, [], ◌∷◌, Some, take, arith}
use Rattle.std.proofs.lemmas.List.{length-take}
use Rattle.std.proofs.lemmas.Bool.Decides.{nat_tests}
use Rattle.paxos_msg.specs.declared.ballot.Ballot.{Ballot}
use Rattle.paxos_msg.specs.declared.value.Value.{Value}
use Rattle.paxos_msg.specs.Batches.{Record, Vote}
use Rattle.paxos_msg.specs.declared.message.Body.TheVariants.{Promise}
use Rattle.paxos_msg.specs.Fits.{IsBallot, IsPlace, IsValue, AreVotes}
use Rattle.paxos_msg.specs.Bodies.{IsBody}
use Rattle.paxos_msg.specs.Messages.{kept_vote_at}
use Rattle.paxos_msg.specs.Places.{votes_from}
use Rattle.paxos_acceptor.specs.Answers.{accept_of, place_after, prepare_of, upto_of}
use Rattle.paxos_acceptor.specs.Records.{IsRecord}
use Rattle.paxos_acceptor.proofs.Ranges.{promise_in_ranges}

module _ (size upto : ℕ) (b : Ballot) where
  -- votes from a place on are in the bounds
  from_on : (votes : List Vote) (from low : ℕ) → AreVotes size b low upto votes
      → AreVotes size b (max low from) upto (votes_from from votes)
  from_on [] from low h = tt
  from_on (x ∷ xs) from low h = grind (arith, nat_tests, h.0.not_above, from_on xs from (x.place + 1) h.1)

  -- so are the first of them
  first_ones : (n : ℕ) (votes : List Vote) (low : ℕ) → AreVotes size b low upto votes → AreVotes size b low upto (take n votes)
  first_ones zero votes low h = tt
  first_ones (suc n) [] low h = tt
  first_ones (suc n) (x ∷ xs) low h = (h.0, first_ones n xs (x.place + 1) h.1)

  -- a vote that is found has a value in its ranges
  value_fits : (votes : List Vote) (s low : ℕ) (vote : Vote) → AreVotes size b low upto votes
      → kept_vote_at votes s ≡ Some vote → IsValue size vote.value
  value_fits [] s low vote h e = absurd cc
  value_fits (x ∷ xs) s low vote h e = grind (arith, nat_tests, value_fits xs s (x.place + 1) vote h.1)

  -- the place after the last vote is in the bounds, and the votes are below it
  ends : (x : Vote) (xs : List Vote) (low : ℕ) → AreVotes size b low upto (x ∷ xs)
      → (place_after (x ∷ xs) ≤ upto) × (low < place_after (x ∷ xs)) × AreVotes size b low (place_after (x ∷ xs)) (x ∷ xs)
  ends x [] low h = grind arith
  ends x (y ∷ ys) low h =
      grind (arith, ends y ys (x.place + 1) h.1)

-- the bounds of a part
part_fits : (size i : ℕ) (b : Ballot) (from : ℕ) (votes : List Vote) → IsBallot size b → IsPlace from → AreVotes size b from 65536 votes
    → IsBody size i (Promise b from (upto_of votes) (take 8 votes))
part_fits size i b from [] ballot place h = (ballot, place, omega arith, omega arith, omega arith, tt)
part_fits size i b from (x ∷ xs) ballot place h =
    grind (arith, nat_tests, first_ones size 65536 b 8 (x ∷ xs) from h, length-take 8 (x ∷ xs), ends size 65536 b x (take 7 xs) from)

-- ---- the answers

-- that to a Prepare is in its ranges
pub prepare_fits : (size i from : ℕ) (r : Record) (b : Ballot) → IsRecord size r → IsBallot size b → IsPlace from
    → IsBody size i (prepare_of r b from).says
prepare_fits size i from r b h ballot place =
    let fits = part_fits size i b from (votes_from from r.votes) ballot place in
    grind (arith, nat_tests, fits, from_on size 65536 b r.votes from 0, promise_in_ranges size r b)

-- so is that to an Accept
pub accept_fits : (size i s : ℕ) (r : Record) (b : Ballot) (v : Value) → IsRecord size r → IsBallot size b → IsPlace s → IsValue size v
    → IsBody size i (accept_of r b s v).says
accept_fits size i s r b v h ballot place value =
    grind (arith, nat_tests, value_fits size 65536 b r.votes s 0, promise_in_ranges size r b)
