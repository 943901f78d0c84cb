-- The types and rules of the protocol at the values of today, which are batches of keys. Other
-- modules state them for any type of values.
use Rattle.std.specs.Prelude.{ℕ, List, Option}
use Rattle.paxos_msg.specs.declared.ballot.Ballot.{Ballot}
use Rattle.paxos_msg.specs.declared.value.Value.{Value}
use Rattle.paxos_msg.specs.declared.value.Vote.{Vote as VoteOf}
use Rattle.paxos_msg.specs.declared.record.Record.{Record as RecordOf}
use Rattle.paxos_msg.specs.declared.record.Change.{Change as ChangeOf}
use Rattle.paxos_msg.specs.declared.message.Body.{Body as BodyOf}
use Rattle.paxos_msg.specs.declared.message.Msg.{Msg as MsgOf}
use Rattle.paxos_msg.specs.Keys.{batches, Key}
use Rattle.paxos_msg.specs.Messages.{Sent as SentOf}
use Rattle.paxos_msg.specs.Sending.{IsFree as IsFreeOf, IsSafe as IsSafeOf, IsTyped as IsTypedOf, MaySend as MaySendOf, MaySendAll as MaySendAllOf}
use Rattle.paxos_msg.specs.Growth.{Grew as GrewOf}

-- A vote for a batch of keys or a no-op.
abbrev pub Vote : Type 0
Vote = VoteOf Value

-- The record of an acceptor, at batches of keys.
abbrev pub Record : Type 0
Record = RecordOf Value

-- A change of such a record.
abbrev pub Change : Type 0
Change = ChangeOf Value

-- The body of a message, at batches of keys.
abbrev pub Body : Type 0
Body = BodyOf Value

-- A message and its sender, at batches of keys.
abbrev pub Msg : Type 0
Msg = MsgOf Value

-- All messages ever sent, at batches of keys, the oldest first.
abbrev pub Sent : Type 0
Sent = SentOf Value

-- The value is free to be proposed: it is a no-op or was submitted.
abbrev pub IsFree : Sent → Value → Type 0
IsFree = IsFreeOf batches

-- The value is safe to propose at a place under a ballot.
-- Source: Simple 2.2, phase 2(a), P2c.
abbrev pub IsSafe : ℕ → Sent → Ballot → ℕ → Value → Type 0
IsSafe = IsSafeOf batches

-- The value has keys of one node alone, each of them typed.
abbrev pub IsTyped : List Key → ℕ → Value → Type 0
IsTyped = IsTypedOf batches

-- A node may send the body after the messages sent before.
-- Source: Simple 2.2, 2.3 and 3.
abbrev pub MaySend : ℕ → List Key → (ℕ → Option Value) → Sent → ℕ → Record → Body → Type 0
MaySend = MaySendOf batches

-- A node may send the bodies in one call, each after the earlier ones.
abbrev pub MaySendAll : ℕ → List Key → (ℕ → Option Value) → Sent → ℕ → Record → List Body → Type 0
MaySendAll = MaySendAllOf batches

-- The messages and the records grew from nothing by allowed messages and saves.
-- Source: Simple 2.2.
abbrev pub Grew : ℕ → Sent → (ℕ → Record) → Type 0
Grew = GrewOf batches
