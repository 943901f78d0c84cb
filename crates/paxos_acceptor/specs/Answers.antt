-- The answers of an acceptor, and the changes that it saves before them.
use Rattle.std.specs.Prelude.{ℕ, ◌+◌, ◌-◌, nat_lt, Bool, false, List, All, length, take, slice_get, Option, Some, None, if◌then◌else◌}
use Rattle.std.specs.Option.{option_map_or}
use Rattle.paxos_msg.specs.declared.ballot.Ballot.{Ballot}
use Rattle.paxos_msg.specs.declared.value.Value.{Value}
use Rattle.paxos_msg.specs.Batches.{Body, Change, Record, Vote}
use Rattle.paxos_msg.specs.declared.record.Change.TheVariants as change
use Rattle.paxos_msg.specs.declared.message.Body.TheVariants.{Promise, Accepted, Refused}
use Rattle.paxos_msg.specs.Fits.{IsPlace}
use Rattle.paxos_msg.specs.Messages.{kept_vote_at}
use Rattle.paxos_msg.specs.Records.{changed}
use Rattle.paxos_msg.specs.Places.{votes_from}
use Rattle.paxos_msg.specs.Tests.{ballot_lt, same_ballot}
use Rattle.paxos_msg.specs.declared.limits.TheConstants.{MOST_VOTES, PLACES}

-- The promised ballot, if it is greater than `b`.
-- Source: Simple 2.2.
-- Allows: A ballot of the same round and a greater node.
abbrev pub greater_promise : Option Ballot → Ballot → Option Ballot
greater_promise None b = None
greater_promise (Some p) b = if ballot_lt b p then Some p else None

-- True if `b` is the promised ballot.
-- Source: Simple 2.2.
-- Forbids: A refusal of the promised ballot itself.
abbrev pub is_promised : Option Ballot → Ballot → Bool
is_promised None b = false
is_promised (Some p) b = same_ballot p b

-- The value of the vote, if it is under `b`.
-- Source: Simple 2.2.
abbrev pub value_under : Option Vote → Ballot → Option Value
value_under None b = None
value_under (Some vote) b = if same_ballot vote.ballot b then Some vote.value else None

-- An answer, and the change that is saved before it, if any.
pub record Answer : Type 0 where
  pub saves : Option Change
  pub says : Body

-- The record after a change; without a change it stays.
abbrev pub after : Record → Option Change → Record
after r None = r
after r (Some c) = changed r c

-- Votes at places of the group.
abbrev pub AreAtPlaces : List Vote → Type 0
AreAtPlaces votes = All (λ vote. IsPlace vote.place) votes

-- The place after the last of these votes.
abbrev pub place_after : List Vote → ℕ
place_after votes = option_map_or (λ vote. vote.place + 1) (slice_get votes (length votes - 1)) 0

-- The place up to which a part reports that has the first 8 of these votes: all places, unless
-- there are more.
abbrev pub upto_of : List Vote → ℕ
upto_of votes =
    if nat_lt MOST_VOTES (length votes) then place_after (take MOST_VOTES votes) else PLACES

-- The part of a promise for the places from `from` on: at most 8 votes.
-- Source: Simple 2.2, phase 1(b).
abbrev pub part_of : Record → Ballot → ℕ → Body
part_of r b from =
    Promise b from (upto_of (votes_from from r.votes)) (take MOST_VOTES (votes_from from r.votes))

-- The answer to a Prepare, by the greater promised ballot, if there is one, which refuses it. If
-- the ballot is promised already, nothing is saved.
abbrev pub prepared : Option Ballot → Record → Ballot → ℕ → Answer
prepared (Some p) r b from = record { saves = None; says = Refused b p }
prepared None r b from =
    record {
      saves = if is_promised r.promised b then None else Some (change.Promise b);
      says = part_of r b from;
    }

-- The answer to a Prepare of ballot `b` for the places from `from` on, and the change saved before:
-- a part of at most 8 votes, or a refusal.
-- Source: Simple 2.2, phase 1(b).
-- Allows: The same promise given again, without a save.
-- Forbids: A promise below the promised ballot.
abbrev pub prepare_of : Record → Ballot → ℕ → Answer
prepare_of r b from = prepared (greater_promise r.promised b) r b from

-- The answer to an Accept that is not refused, by the value voted for under this very ballot, if
-- there is one.
abbrev pub voted : Option Value → Ballot → ℕ → Value → Answer
voted (Some w) b s v = record { saves = None; says = Accepted b s w }
voted None b s v = record { saves = Some (change.Ballotted s b v); says = Accepted b s v }

-- The answer to an Accept, by the greater promised ballot, if there is one, which refuses it.
abbrev pub accepted : Option Ballot → Record → Ballot → ℕ → Value → Answer
accepted (Some p) r b s v = record { saves = None; says = Refused b p }
accepted None r b s v = voted (value_under (kept_vote_at r.votes s) b) b s v

-- The answer to an Accept of `v` at place `s` under ballot `b`, and the change saved before.
-- Source: Simple 2.2, phase 2(b).
-- Allows: A vote under the same ballot reported again.
-- Forbids: A vote below the promised ballot.
abbrev pub accept_of : Record → Ballot → ℕ → Value → Answer
accept_of r b s v = accepted (greater_promise r.promised b) r b s v
