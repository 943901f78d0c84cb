-- Fields read without a test of their numbers.
use Rattle.std.specs.Prelude.{◌≡◌, ◌≤◌, ℕ, zero, suc, List, [], ◌∷◌, length, drop, Result, Ok, Err, ◌==◌, nat_lt, ◌||◌, if◌then◌else◌}
use Rattle.paxos_msg.specs.declared.ballot.Ballot.{Ballot}
use Rattle.paxos_msg.specs.declared.value.Value.{Value}
use Rattle.paxos_msg.specs.declared.value.Value.TheVariants as value
use Rattle.paxos_msg.specs.Batches.{Vote}
use Rattle.paxos_msg.specs.declared.fault.WireFault.{WireFault}
use Rattle.paxos_msg.specs.declared.fault.WireFault.TheVariants as fault
use Rattle.base.specs.Steps.{◌>>=◌}
use Rattle.paxos_msg.specs.Reading.{first_byte, bytes_at, characters_at, number_at, refuse, vote_at}
use Rattle.paxos_msg.specs.declared.limits.TheConstants.{MOST_CHARACTERS}

-- The rest after the first `n` bytes.
abbrev pub Takes : ℕ → List ℕ → List ℕ → Type 0
Takes n bytes rest = (n ≤ length bytes) × (rest ≡ drop n bytes)

-- ---- fields without a test of their numbers

-- A ballot at the front of bytes, without a test of its fields.
unfoldable pub raw_ballot_at : List ℕ → Result (Ballot × List ℕ) WireFault
raw_ballot_at bytes = do
  round ← number_at bytes
  node ← first_byte round.1
  Ok (record { round = round.0; node = node.0 }, node.1)

-- The characters of a batch after their number, which is 1 to 32.
unfoldable pub raw_characters_at : List ℕ → Result (List ℕ × List ℕ) WireFault
raw_characters_at bytes = do
  count ← first_byte bytes
  _ ← refuse fault.Value ((count.0 == 0) || nat_lt MOST_CHARACTERS count.0)
  bytes_at count.0 count.1

-- The fields of a batch after its node, without a test of its start and serials.
unfoldable pub raw_keys_at : ℕ → List ℕ → Result (Value × List ℕ) WireFault
raw_keys_at node bytes = do
  start ← number_at bytes
  first ← number_at start.1
  characters ← raw_characters_at first.1
  Ok (value.Keys node start.0 first.0 characters.0, characters.1)

-- The fields of a batch after its node, with start and serials in their ranges.
unfoldable pub keys_rest_at : ℕ → List ℕ → Result (Value × List ℕ) WireFault
keys_rest_at node bytes = do
  start ← number_at bytes
  _ ← refuse fault.Value (start.0 == 0)
  first ← number_at start.1
  characters ← characters_at first.0 first.1
  Ok (value.Keys node start.0 first.0 characters.0, characters.1)

-- The value after its tag, without a test of its node, start and serials.
abbrev pub raw_tagged : ℕ → List ℕ → Result (Value × List ℕ) WireFault
raw_tagged tag bytes =
    if tag == 0 then Ok (value.Noop, bytes)
    else (if tag == 1 then (first_byte bytes >>= λ node. raw_keys_at node.0 node.1)
    else Err fault.Value)

-- A value at the front of bytes, without a test of its node, start and serials.
unfoldable pub raw_value_at : List ℕ → Result (Value × List ℕ) WireFault
raw_value_at bytes = first_byte bytes >>= λ tag. raw_tagged tag.0 tag.1

-- A vote at the front of bytes, without a test of its numbers.
unfoldable pub raw_vote_at : List ℕ → Result (Vote × List ℕ) WireFault
raw_vote_at bytes = do
  place ← number_at bytes
  ballot ← raw_ballot_at place.1
  value ← raw_value_at ballot.1
  Ok (record { place = place.0; ballot = ballot.0; value = value.0 }, value.1)

-- ---- votes without a test of their numbers

-- A vote at `place` read from the front of bytes, which is the same without the tests.
pub record PassesVote (size : ℕ) (b : Ballot) (first upto low : ℕ) (bytes : List ℕ) (place : ℕ)
    (rest : List ℕ) : Type 0 where
  pub vote : Vote
  pub at_place : vote.place ≡ place
  pub read : vote_at size b first upto low bytes ≡ Ok (vote, rest)
  pub raw : raw_vote_at bytes ≡ Ok (vote, rest)

-- The vote that was read and those after it, or none after a fault.
abbrev pub then_votes : Result (Vote × List ℕ) WireFault → (List ℕ → List Vote) → List Vote
then_votes (Ok x) others = x.0 ∷ others x.1
then_votes (Err e) others = []

-- The first `n` votes of the bytes, or as many as there are.
unfoldable pub votes_left : ℕ → List ℕ → List Vote
votes_left zero bytes = []
votes_left (suc n) bytes = then_votes (raw_vote_at bytes) (votes_left n)
