-- Reading votes one after the other.
use Rattle.std.proofs.Common.{◌≡◌, ℕ, zero, suc, ◌+◌, ◌-◌, ◌<◌, ◌≤◌, List, [], ◌∷◌, length, drop, Ok, Err, refl, arith}
use Rattle.std.proofs.lemmas.List.{drop-drop}
use Rattle.std.proofs.lemmas.Bool.Decides.{nat_tests}
use Rattle.paxos_msg.specs.declared.ballot.Ballot.{Ballot}
use Rattle.paxos_msg.specs.Batches.{Vote}
use Rattle.paxos_msg.specs.declared.fault.WireFault.{WireFault}
use Rattle.base.specs.Steps.{◌>>=◌}
use Rattle.paxos_msg.specs.Reading.{vote_at, votes_at}
use Rattle.paxos_msg.specs.Raw.{Takes, raw_vote_at, votes_left}

-- no vote is left where none is wanted
pub none_left : (n : ℕ) (bytes : List ℕ) → n ≡ 0 → votes_left n bytes ≡ []
unfolding votes_left
none_left n bytes e = rw e refl

-- the first vote that is left, and those after it
pub first_left : (n : ℕ) (bytes rest : List ℕ) (v : Vote) → 0 < n → raw_vote_at bytes ≡ Ok (v, rest)
    → votes_left n bytes ≡ v ∷ votes_left (n - 1) rest
unfolding votes_left
first_left n bytes rest v lt h = grind (arith, nat_tests)

-- no vote is left where the bytes do not hold one
pub none_more : (n : ℕ) (bytes : List ℕ) (e : WireFault) → raw_vote_at bytes ≡ Err e → votes_left n bytes ≡ []
unfolding votes_left
none_more n bytes e h = grind (arith, nat_tests)

-- there are no more votes than are wanted
pub few_left : (n : ℕ) (bytes : List ℕ) → length (votes_left n bytes) ≤ n
unfolding votes_left
few_left zero bytes = omega arith
few_left (suc n) bytes = grind (arith, nat_tests, few_left n)

module _ (size : ℕ) (b : Ballot) (first upto low : ℕ) where
  -- reading no votes
  pub no_votes : (n : ℕ) (bytes : List ℕ) → n ≡ 0 → votes_at size b first upto low n bytes ≡ Ok (votes_left n bytes, bytes)
  unfolding votes_left votes_at
  no_votes n bytes e = rw e refl

  -- the first vote is read
  first_at : (n : ℕ) (bytes rest : List ℕ) (v : Vote) → 0 < n → vote_at size b first upto low bytes ≡ Ok (v, rest)
      → votes_at size b first upto low n bytes ≡ (votes_at size b first upto (v.place + 1) (n - 1) rest >>= λ x. Ok (v ∷ x.0, x.1))
  unfolding votes_at
  first_at n bytes rest v lt h = grind (arith, nat_tests)

  -- the first vote has a fault
  pub fault_at : (n : ℕ) (bytes : List ℕ) (e : WireFault) → 0 < n → vote_at size b first upto low bytes ≡ Err e
      → votes_at size b first upto low n bytes ≡ Err e
  unfolding votes_at
  fault_at n bytes e lt h = grind (arith, nat_tests)

-- reading from a state of the loop leads to the answer of the whole
pub record LeadsTo (size : ℕ) (b : Ballot) (first upto count : ℕ) (bytes : List ℕ) (low left : ℕ) (rest : List ℕ) : Type 0 where
  pub ok : (later : List ℕ) → votes_at size b first upto low left rest ≡ Ok (votes_left left rest, later)
      → votes_at size b first upto 0 count bytes ≡ Ok (votes_left count bytes, later)
  pub err : (e : WireFault) → votes_at size b first upto low left rest ≡ Err e → votes_at size b first upto 0 count bytes ≡ Err e

module _ {size : ℕ} {b : Ballot} {first upto count : ℕ} {bytes : List ℕ} where
  -- a vote more is read
  pub goes_on : {low left : ℕ} (less : ℕ) {rest later : List ℕ} {v : Vote} → LeadsTo size b first upto count bytes low left rest
      → less + 1 ≡ left → vote_at size b first upto low rest ≡ Ok (v, later) → raw_vote_at rest ≡ Ok (v, later)
      → LeadsTo size b first upto count bytes (v.place + 1) less later
  goes_on {low} {left} less {rest} {later} {v} so_far one_less h raw =
      record {
        ok = λ end k. so_far.ok end (grind (arith, first_left left rest later v, first_at size b first upto low left rest later v));
        err = λ fault k. so_far.err fault (grind (arith, first_at size b first upto low left rest later v));
      }

-- ---- the bytes of a value, after the place and the ballot of its vote

pub ballot_drop : (bytes a b : List ℕ) (n : ℕ) → Takes 4 bytes a → Takes 5 a b → drop n b ≡ drop (9 + n) bytes
ballot_drop bytes a b n place ballot =
    grind (arith, nat_tests, ballot.1, drop-drop 5 4 bytes, drop-drop n 9 bytes)
