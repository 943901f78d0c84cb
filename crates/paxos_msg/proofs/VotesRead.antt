-- Votes: what is read was written, and what is written is read.
use Rattle.std.proofs.Common.{◌≡◌, ℕ, zero, suc, ◌+◌, ◌≤◌, ltb, List, [], ◌∷◌, ◌++◌, length, Ok, refl, append_assoc, arith}
use Rattle.std.proofs.lemmas.List.{nil_from_length}
use Rattle.std.proofs.lemmas.Bool.Decides.{nat_tests}
use Rattle.paxos_msg.specs.declared.ballot.Ballot.{Ballot}
use Rattle.paxos_msg.specs.Batches.{Vote}
use Rattle.paxos_msg.specs.declared.fault.WireFault.TheVariants as fault
use Rattle.paxos_msg.specs.Fits.{IsVote, AreVotes}
use Rattle.paxos_msg.specs.Spelling.{vote_bytes, votes_bytes}
use Rattle.paxos_msg.specs.Reading.{vote_at, votes_at}
use Rattle.paxos_msg.proofs.Fields.{Exact, step, step_if, numbers, ballots}
use Rattle.paxos_msg.proofs.ValuesRead.{values}

module _ (size : ℕ) (b : Ballot) (first upto : ℕ) (small : upto ≤ 65536) where
  -- one vote at a place from low on
  one_vote : (low : ℕ) → Exact (vote_at size b first upto low) (λ v. IsVote size b first upto v × (low ≤ v.place)) vote_bytes
  unfolding vote_at
  one_vote low = record {
    found = λ bytes are. step_if numbers bytes fault.Order (λ place. ltb place low) _ _ are (λ place later below parts are from_low.
        grind (arith, nat_tests, ballots size, values size));
    again = λ v rest h. grind (arith, nat_tests, numbers.again, (ballots size).again, (values size).again);
  }

  -- the first n votes at places from low on, of which none is below first
  abbrev Reads : ℕ → ℕ → ℕ → Type 0
  Reads n low from = Exact (votes_at size b first upto low n) (λ votes. AreVotes size b from upto votes × (length votes ≡ n)) votes_bytes

  -- votes that fit are read again
  some_again : (n low from : ℕ) → low ≤ from → first ≤ from → ((later : ℕ) → first ≤ later → Reads n later later)
      → (votes : List Vote) (rest : List ℕ) → AreVotes size b from upto votes × (length votes ≡ suc n)
      → votes_at size b first upto low (suc n) (votes_bytes votes ++ rest) ≡ Ok (votes, rest)
  unfolding votes_at
  some_again n low from le above more [] rest h = absurd (omega (arith, h.1))
  some_again n low from le above more (v ∷ votes) rest h =
      rw (
        append_assoc (vote_bytes v) (votes_bytes votes) rest,
        (one_vote low).again v (votes_bytes votes ++ rest) (grind (arith, nat_tests)),
        (more (v.place + 1) (omega (arith, h.0.0.from_low))).again votes rest (h.0.1, omega (arith, h.1)),
      ) refl

  -- from is the greater one of low and first
  pub votes : (n low from : ℕ) → low ≤ from → first ≤ from → ((k : ℕ) → low ≤ k → first ≤ k → from ≤ k) → Reads n low from
  unfolding votes_at
  votes zero low from le above bound = grind (arith, nil_from_length)
  votes (suc n) low from le above bound =
      let more : (later : ℕ) → first ≤ later → Reads n later later =
      λ later above. votes n later later (omega arith) above (λ k le above. le) in
      record {
        found = λ bytes are. step (one_vote low) bytes _ _ are (λ v later one parts are.
            step (more (v.place + 1) (omega arith)) later _ _ are (λ others later good parts' are.
            grind (arith, bound v.place one.1 one.0.from_low, one.0, append_assoc)));
        again = some_again n low from le above more;
      }
