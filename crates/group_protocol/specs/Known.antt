-- What a node knows, and its response to a start and to a typed key.
use Rattle.std.specs.Prelude.{ℕ, ◌+◌, List, [], ◌∷◌, ◌++◌, length, Option, Some, None}
use Rattle.paxos_msg.specs.declared.ballot.Ballot.{Ballot}
use Rattle.paxos_msg.specs.declared.value.Value.{Value}
use Rattle.paxos_msg.specs.declared.value.Value.TheVariants.{Keys}
use Rattle.paxos_msg.specs.declared.record.Change.TheVariants as change
use Rattle.paxos_msg.specs.Batches.{Change, Record}
use Rattle.paxos_msg.specs.Keys.{Key}
use Rattle.paxos_msg.specs.Records.{changed}
use Rattle.paxos_acceptor.specs.declared.me.Me.{Me}
use Rattle.paxos_proposer.specs.Proposer.{Proposer}
use Rattle.paxos_learner.specs.Learner.{Learner, front_of, new_learner}
use Rattle.group_protocol.specs.Packets.{Packet}

-- What a node knows.
-- It has its number and group; its acceptor's record; its learner; its proposer, if it has one; the
-- greatest ballot that a Refused reported; the keys that it has offered under its ballot; and the
-- characters that wait, whose first is the key with this serial.
-- Source: Simple 2.5, each process is proposer, acceptor and learner.
-- Allows: a node without a proposer.
-- Forbids: two proposers.
pub record Known : Type 0 where
  pub me : Me
  pub kept : Record
  pub learner : Learner
  pub proposer : Option Proposer
  pub remembered : Option Ballot
  pub offered : List Key
  pub waiting : List ℕ
  pub first : ℕ

-- The response to a call: the node after it, the change that it saves, if any, and then what it
-- sends, in order.
-- Source: Simple 2.5, stable storage.
-- Allows: a call that neither saves nor sends.
-- Forbids: two saves in one call.
pub record Response : Type 0 where
  pub node : Known
  pub saves : Option Change
  pub sends : List Packet

-- The response that saves and sends nothing.
abbrev pub quiet : Known → Response
quiet n = record { node = n; saves = None; sends = [] }

-- The known front of a node.
-- Source: Simple 3.
abbrev pub front : Known → ℕ
front n = front_of n.learner.learned

-- The value of characters that were typed at the node in its present start, the first with this
-- serial.
abbrev pub own_batch : Known → ℕ → List ℕ → Value
own_batch n serial bytes = Keys n.me.node n.kept.starts serial bytes

-- The serial of the next key that is typed.
-- Allows: 4,294,967,296, which no key gets.
abbrev pub next_serial : Known → ℕ
next_serial n = n.first + length n.waiting

-- A node that has just started over a record in which its start is counted: it has heard nothing.
-- Allows: any record.
-- Forbids: a proposer or a learned place from before.
abbrev pub begun : Me → Record → Known
begun me r = record {
  me = me;
  kept = r;
  learner = new_learner me.group.size;
  proposer = None;
  remembered = None;
  offered = [];
  waiting = [];
  first = 1;
}

-- The response to a start: it is counted in the record and saved.
-- Source: Simple 2.5.
abbrev pub on_start : Me → Record → Response
on_start me r = record {
  node = begun me (changed r change.Start);
  saves = Some change.Start;
  sends = [];
}

-- The typed key, as a batch of one.
abbrev pub new_key : Known → ℕ → Value
new_key n byte = own_batch n (next_serial n) (byte ∷ [])

-- The response to a typed key, which waits after the others.
-- Forbids: a key that is sent at once.
abbrev pub on_typed : Known → ℕ → Response
on_typed n byte = quiet (record n { waiting = n.waiting ++ byte ∷ [] })
