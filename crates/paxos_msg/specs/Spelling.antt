-- The bytes of the fields of a message. Numbers have their high byte first.
use Rattle.std.specs.Prelude.{◌≡◌, ℕ, ◌+◌, List, [], ◌∷◌, ◌++◌, length, Vec, vec_capacity, vec_len}
use Rattle.byteorder.specs.Endian.{big_bytes}
use Rattle.paxos_msg.specs.declared.ballot.Ballot.{Ballot}
use Rattle.paxos_msg.specs.declared.value.Value.{Value}
use Rattle.paxos_msg.specs.declared.value.Value.TheVariants.{Noop, Keys}
use Rattle.paxos_msg.specs.Batches.{Vote}

-- The vector after items were put at its end, where it had room for them. Its capacity stays.
pub record Puts {X Z : Type 0} (old new : Vec X Z) (added : List X) : Type 0 where
  pub items : new.items ≡ old.items ++ added
  pub len : vec_len new ≡ vec_len old + length added
  pub capacity : vec_capacity new ≡ vec_capacity old

-- The four bytes of a number.
abbrev pub number_bytes : ℕ → List ℕ
number_bytes n = big_bytes 4 n

-- The five bytes of a ballot: round and node.
abbrev pub ballot_bytes : Ballot → List ℕ
ballot_bytes b = number_bytes b.round ++ b.node ∷ []

-- The bytes of a value: 0 for a no-op, or 1 and the fields of a batch.
abbrev pub value_bytes : Value → List ℕ
value_bytes Noop = 0 ∷ []
value_bytes (Keys node start first bytes) =
    1 ∷ node ∷ (number_bytes start ++ number_bytes first ++ length bytes ∷ bytes)

-- The bytes of a vote: place, ballot and value.
abbrev pub vote_bytes : Vote → List ℕ
vote_bytes v = number_bytes v.place ++ ballot_bytes v.ballot ++ value_bytes v.value

-- The bytes of votes, one after another.
abbrev pub votes_bytes : List Vote → List ℕ
votes_bytes [] = []
votes_bytes (v ∷ vs) = vote_bytes v ++ votes_bytes vs
