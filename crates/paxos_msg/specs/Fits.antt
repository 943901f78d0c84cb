-- The ranges of each field. A message has a spelling if all its fields are in their ranges.
use Rattle.std.specs.Prelude.{ℕ, ◌+◌, ◌^◌, ◌<◌, ◌≤◌, List, [], ◌∷◌, length, slice_index}
use Rattle.paxos_msg.specs.declared.ballot.Ballot.{Ballot}
use Rattle.paxos_msg.specs.declared.value.Value.{Value}
use Rattle.paxos_msg.specs.declared.value.Value.TheVariants as value
use Rattle.paxos_msg.specs.Batches.{Vote}
use Rattle.paxos_msg.specs.declared.message.Group.{Group}
use Rattle.paxos_msg.specs.Ballots.{IsAtMost}
use Rattle.paxos_msg.specs.declared.limits.TheConstants.{LAST_PLACE, LAST_SERIAL, MOST_CHARACTERS}

-- Numbers that are bytes, as the items of a `&[u8]` and of a `Vec<u8>` are.
-- Allows: 255.
-- Forbids: 256.
abbrev pub AreBytes : List ℕ → Type 0
AreBytes bytes = (i : ℕ) → slice_index bytes i < 256

-- A group whose session fits four bytes, as that of each `Group` does.
abbrev pub IsGroup : Group → Type 0
IsGroup group = group.session < 2 ^ 32

-- A node of a group of `size` nodes.
abbrev pub IsNode : ℕ → ℕ → Type 0
IsNode size node = (0 < node) × (node ≤ size)

-- A number from 1 on that fits four bytes.
abbrev pub IsCount : ℕ → Type 0
IsCount n = (0 < n) × (n < 2 ^ 32)

-- A ballot of a node of the group, with a round from 1 on.
-- Forbids: A ballot of round 0.
abbrev pub IsBallot : ℕ → Ballot → Type 0
IsBallot size b = IsCount b.round × IsNode size b.node

-- A place of the group, 0 to 65,535.
-- Allows: Place 65,535.
abbrev pub IsPlace : ℕ → Type 0
IsPlace s = s ≤ LAST_PLACE

-- One to 32 characters, whose keys have the serials from `first` on, 1 to 4,294,967,295.
abbrev pub IsBatch : ℕ → List ℕ → Type 0
IsBatch first bytes =
    (0 < first) × (0 < length bytes) × (length bytes ≤ MOST_CHARACTERS)
    × (first + length bytes ≤ LAST_SERIAL + 1) × AreBytes bytes

-- A no-op, or a batch of keys of a node of the group, in its ranges.
abbrev pub IsValue : ℕ → Value → Type 0
IsValue size value.Noop = Unit {0}
IsValue size (value.Keys node start first bytes) =
    IsNode size node × IsCount start × IsBatch first bytes

-- A vote at a place from `low` up to and without `upto`, under a ballot that is not above `b`.
pub record IsVote (size : ℕ) (b : Ballot) (low upto : ℕ) (vote : Vote) : Type 0 where
  pub from_low : low ≤ vote.place
  pub below_upto : vote.place < upto
  pub ballot : IsBallot size vote.ballot
  pub not_above : IsAtMost vote.ballot b
  pub value : IsValue size vote.value

-- Votes in their ranges at ascending places from `low` up to and without `upto`, under ballots not
-- above `b`.
-- Allows: No vote.
-- Forbids: Two votes at one place.
abbrev pub AreVotes : ℕ → Ballot → ℕ → ℕ → List Vote → Type 0
AreVotes size b low upto [] = Unit {0}
AreVotes size b low upto (vote ∷ votes) =
    IsVote size b low upto vote × AreVotes size b (vote.place + 1) upto votes
