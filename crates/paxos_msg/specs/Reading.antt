-- Reading the fields of a datagram from left to right: the value, or the first fault.
use Rattle.std.specs.Prelude.{◌≡◌, ℕ, zero, suc, ◌+◌, ◌≤◌, List, [], ◌∷◌, length, take, drop, Result, Ok, Err, nat_lt, nat_le, ◌==◌, ◌&&◌, ◌||◌, not, Bool, if◌then◌else◌}
use Rattle.base.specs.Steps.{◌>>=◌, unless}
use Rattle.byteorder.specs.Endian.{big_number}
use Rattle.paxos_msg.specs.declared.ballot.Ballot.{Ballot}
use Rattle.paxos_msg.specs.declared.value.Value.{Value}
use Rattle.paxos_msg.specs.declared.value.Value.TheVariants.{Noop, Keys}
use Rattle.paxos_msg.specs.Batches.{Vote}
use Rattle.paxos_msg.specs.declared.fault.WireFault.{WireFault}
use Rattle.paxos_msg.specs.declared.fault.WireFault.TheVariants as fault
use Rattle.paxos_msg.specs.Tests.{ballot_lt}
use Rattle.paxos_msg.specs.declared.limits.TheConstants.{LAST_SERIAL, MOST_CHARACTERS}

-- The answer of a call, seen by `view`, is the result of reading.
-- Allows: The same fault.
-- Forbids: Another fault.
abbrev pub Gives : {X Y : Type 0} → (X → Y) → Result X WireFault → Result Y WireFault → Type 0
Gives view (Ok x) read = read ≡ Ok (view x)
Gives view (Err e) read = read ≡ Err e

-- The answer of a call that reads one field, with the number of its bytes, is the result of
-- reading.
-- Allows: The same fault.
-- Forbids: Another fault.
abbrev pub GivesField : {A : Type 0} → List ℕ → Result (A × ℕ) WireFault
    → Result (A × List ℕ) WireFault → Type 0
GivesField bytes (Ok x) read = (x.1 ≤ length bytes) × (read ≡ Ok (x.0, drop x.1 bytes))
GivesField bytes (Err e) read = read ≡ Err e

-- The refusal by a fault if a test holds.
abbrev pub refuse : WireFault → Bool → Result (Unit {0}) WireFault
refuse e test = unless e test tt

-- ---- fields: the value, and the bytes after it

-- The first byte and those after it.
abbrev pub first_byte : List ℕ → Result (ℕ × List ℕ) WireFault
first_byte [] = Err fault.Short
first_byte (b ∷ bytes) = Ok (b, bytes)

-- The number in the first four bytes, and the bytes after it.
-- Allows: Bytes after it.
-- Forbids: A field that is cut.
abbrev pub number_at : List ℕ → Result (ℕ × List ℕ) WireFault
number_at bytes =
    if nat_lt (length bytes) 4 then Err fault.Short else Ok (big_number 4 bytes, drop 4 bytes)

-- The first `n` bytes, and those after them.
abbrev pub bytes_at : ℕ → List ℕ → Result (List ℕ × List ℕ) WireFault
bytes_at n bytes =
    if nat_lt (length bytes) n then Err fault.Short else Ok (take n bytes, drop n bytes)

-- True if a group of `size` nodes has the node.
abbrev pub is_node : ℕ → ℕ → Bool
is_node size node = nat_lt 0 node && nat_le node size

-- The ballot at the front of bytes, and the bytes after it, or the first check that fails.
-- Allows: Bytes after it.
-- Forbids: A field that is cut.
unfoldable pub ballot_at : ℕ → List ℕ → Result (Ballot × List ℕ) WireFault
ballot_at size bytes = do
  round ← number_at bytes
  _ ← refuse fault.Ballot (round.0 == 0)
  node ← first_byte round.1
  _ ← refuse fault.Ballot (not (is_node size node.0))
  Ok (record { round = round.0; node = node.0 }, node.1)

-- A ballot of the sender's own, and the bytes after it.
unfoldable pub own_ballot_at : ℕ → ℕ → List ℕ → Result (Ballot × List ℕ) WireFault
own_ballot_at size sender bytes = do
  b ← ballot_at size bytes
  unless fault.Ballot (not (b.0.node == sender)) b

-- A place that is at most `most`, and the bytes after it.
unfoldable pub place_at : ℕ → List ℕ → Result (ℕ × List ℕ) WireFault
place_at most bytes = do
  place ← number_at bytes
  unless fault.Place (nat_lt most place.0) place

-- True if `count` keys with the serials from `first` on are a batch: 1 to 32 keys, with serials of
-- 1 to 4,294,967,295.
abbrev pub is_batch : ℕ → ℕ → Bool
is_batch first count =
    nat_lt 0 first
    && (nat_lt 0 count
    && (nat_le count MOST_CHARACTERS && nat_le (first + count) (LAST_SERIAL + 1)))

-- The characters of a batch after their number, for a first key with serial `first`.
unfoldable pub characters_at : ℕ → List ℕ → Result (List ℕ × List ℕ) WireFault
characters_at first bytes = do
  count ← first_byte bytes
  _ ← refuse fault.Value (not (is_batch first count.0))
  bytes_at count.0 count.1

-- The fields of a batch after its tag, with a node that passes the test `is_good`.
unfoldable pub keys_at : (ℕ → Bool) → List ℕ → Result (Value × List ℕ) WireFault
keys_at is_good bytes = do
  node ← first_byte bytes
  _ ← refuse fault.Value (not (is_good node.0))
  start ← number_at node.1
  _ ← refuse fault.Value (start.0 == 0)
  first ← number_at start.1
  characters ← characters_at first.0 first.1
  Ok (Keys node.0 start.0 first.0 characters.0, characters.1)

-- The value after its tag.
abbrev pub tagged_value : ℕ → ℕ → List ℕ → Result (Value × List ℕ) WireFault
tagged_value size tag bytes =
    if tag == 0 then Ok (Noop, bytes)
    else (if tag == 1 then keys_at (is_node size) bytes else Err fault.Value)

-- The value at the front of bytes, and the bytes after it, or the first check that fails.
-- Allows: Bytes after it.
-- Forbids: A field that is cut.
unfoldable pub value_at : ℕ → List ℕ → Result (Value × List ℕ) WireFault
value_at size bytes = first_byte bytes >>= λ tag. tagged_value size tag.0 tag.1

-- Keys that were typed at the sender, and the bytes after them.
unfoldable pub own_keys_at : ℕ → ℕ → List ℕ → Result (Value × List ℕ) WireFault
own_keys_at size sender bytes = do
  tag ← first_byte bytes
  _ ← refuse fault.Value (not (tag.0 == 1))
  keys_at (λ node. is_node size node && (node == sender)) tag.1

-- ---- the votes of a promise under ballot b, from first up to upto

-- A vote of the promise at a place from `low` on, one above the place of the vote before.
unfoldable pub vote_at : ℕ → Ballot → ℕ → ℕ → ℕ → List ℕ → Result (Vote × List ℕ) WireFault
vote_at size b first upto low bytes = do
  place ← number_at bytes
  _ ← refuse fault.Order (nat_lt place.0 low)
  _ ← refuse fault.Place (nat_lt place.0 first || nat_le upto place.0)
  ballot ← ballot_at size place.1
  _ ← refuse fault.Ballot (ballot_lt b ballot.0)
  value ← value_at size ballot.1
  Ok (record { place = place.0; ballot = ballot.0; value = value.0 }, value.1)

-- The first `n` votes of a promise under ballot `b` for the places from `first` up to and without
-- `upto`.
-- Allows: Bytes after them.
-- Forbids: Two votes at one place.
unfoldable pub votes_at : ℕ → Ballot → ℕ → ℕ → ℕ → ℕ → List ℕ
    → Result (List Vote × List ℕ) WireFault
votes_at size b first upto low zero bytes = Ok ([], bytes)
votes_at size b first upto low (suc n) bytes = do
  vote ← vote_at size b first upto low bytes
  others ← votes_at size b first upto (vote.0.place + 1) n vote.1
  Ok (vote.0 ∷ others.0, others.1)
