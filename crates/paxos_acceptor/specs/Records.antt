-- A record: its ranges, the changes that can be made to it, and the messages that back it.
use Rattle.std.specs.Prelude.{◌≡◌, ℕ, ◌^◌, ◌<◌, List, [], Option, Some, None, IfSome, IsSomeAnd}
use Rattle.paxos_msg.specs.declared.ballot.Ballot.{Ballot}
use Rattle.paxos_msg.specs.Batches.{Change, Record, Sent, Vote}
use Rattle.paxos_msg.specs.declared.message.Body.TheVariants.{Accept}
use Rattle.paxos_msg.specs.declared.record.Change.TheVariants.{Start, Promise, Ballotted}
use Rattle.paxos_msg.specs.Ballots.{IsAtMost}
use Rattle.paxos_msg.specs.Fits.{IsBallot, AreVotes}
use Rattle.paxos_msg.specs.Messages.{IsSaid, IsAscending, kept_vote_at}
use Rattle.paxos_msg.specs.declared.limits.TheConstants.{LAST_START, PLACES}

-- Votes beside a promised ballot: without one none, else in ascending order of place, none above
-- it.
abbrev pub AreKept : ℕ → Option Ballot → List Vote → Type 0
AreKept size None votes = votes ≡ []
AreKept size (Some b) votes = IsBallot size b × AreVotes size b 0 PLACES votes

-- A record of an acceptor in a group of `size` nodes, in its ranges.
-- Allows: 0 starts.
-- Forbids: A vote above the promised ballot.
pub record IsRecord (size : ℕ) (r : Record) : Type 0 where
  pub starts : r.starts < 2 ^ 32
  pub kept : AreKept size r.promised r.votes

-- A change that can be made to a record with so many starts and this promised ballot: there is a
-- start to spare, and no ballot is below the promised one.
abbrev pub MayFollow : ℕ → Option Ballot → Change → Type 0
MayFollow starts promised Start = starts < LAST_START
MayFollow starts promised (Promise b) = IfSome promised (λ p. IsAtMost p b)
MayFollow starts promised (Ballotted s b v) = IfSome promised (λ p. IsAtMost p b)

-- A change that can be made to the record.
abbrev pub IsNext : Record → Change → Type 0
IsNext r c = MayFollow r.starts r.promised c

-- A vote at place `s` for a proposed value, under no greater ballot than the promised one.
pub record IsVoteBacked (sent : Sent) (r : Record) (s : ℕ) (vote : Vote) : Type 0 where
  pub proposed : IsSaid sent (Accept vote.ballot s vote.value)
  pub in_promise : IsSomeAnd r.promised (λ p. IsAtMost vote.ballot p)

-- A record whose votes ascend by place and were all proposed, under no greater ballot than the
-- promised one.
-- Source: Simple 2.2.
-- Allows: The empty record.
-- Forbids: A vote for a value that no Accept proposed.
pub record HasBackedVotes (sent : Sent) (r : Record) : Type 0 where
  pub votes : (s : ℕ) → IfSome (kept_vote_at r.votes s) (IsVoteBacked sent r s)
  pub in_order : IsAscending r.votes
