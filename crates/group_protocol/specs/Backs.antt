-- The nodes that are backed by what was sent and typed.
use Rattle.std.specs.Prelude.{◌≡◌, ℕ, List, Contains, Some, IfSome, IsSomeAnd}
use Rattle.paxos_msg.specs.declared.ballot.Ballot.{Ballot}
use Rattle.paxos_msg.specs.declared.value.Value.{Value}
use Rattle.paxos_msg.specs.declared.message.Body.TheVariants.{Accept, Prepare}
use Rattle.paxos_msg.specs.Ballots.{IsAtMost}
use Rattle.paxos_msg.specs.Batches.{Record, Sent}
use Rattle.paxos_msg.specs.Keys.{Key}
use Rattle.paxos_msg.specs.Messages.{IsSaid}
use Rattle.paxos_acceptor.specs.Records.{HasBackedVotes as IsVotesBacked}
use Rattle.paxos_proposer.specs.Backed.{IsProposerBacked}
use Rattle.paxos_proposer.specs.Proposer.{Proposer}
use Rattle.paxos_learner.specs.Backed.{IsLearnerBacked}
use Rattle.group_protocol.specs.Known.{Known}
use Rattle.group_protocol.specs.WaitingKeys.{waiting_keys}

-- The claim that a record has promised this ballot or a greater one.
abbrev pub HasPromised : Record → Ballot → Type 0
HasPromised r b = IsSomeAnd r.promised (λ p. IsAtMost b p)

-- The facts that back the stored record of node `me`.
-- Its votes were proposed and ascend by place, none above the promised ballot. Under ballots of the
-- node's own nothing was asked or proposed above that one.
-- Source: Simple 2.2, P1a; 2.5.
-- Allows: a record that has promised more than was ever sent.
-- Forbids: an own proposal above the promise.
pub record IsRecordBacked (sent : Sent) (me : ℕ) (r : Record) : Type 0 where
  pub votes : IsVotesBacked sent r
  pub asked : (b : Ballot) (from : ℕ) → b.node ≡ me → IsSaid sent (Prepare b from) → HasPromised r b
  pub own : (b : Ballot) (s : ℕ) (v : Value) → b.node ≡ me → IsSaid sent (Accept b s v)
      → HasPromised r b

-- The facts that back a node's proposer.
-- Its ballot is the node's own and the promised one. What it has heard and proposed is what was
-- sent.
-- Source: Simple 2.2, P2c.
-- Allows: a proposer that has heard nothing.
-- Forbids: a promise that was not sent.
pub record IsLeadingBacked (sent : Sent) (me : ℕ) (r : Record) (p : Proposer) : Type 0 where
  pub backed : IsProposerBacked sent me p
  pub promised : r.promised ≡ Some p.ballot

-- The facts that back a node: its record, its proposer, its learner and each key that waits.
-- Source: Simple 2.2 and 2.3.
-- Allows: a node that has just started; more messages, in any order.
-- Forbids: a tally of a node that has sent no Accepted; a key that waits and was not typed.
pub record Backs (sent : Sent) (typed : List Key) (n : Known) : Type 0 where
  pub kept : IsRecordBacked sent n.me.node n.kept
  pub proposer : IfSome n.proposer (IsLeadingBacked sent n.me.node n.kept)
  pub learner : IsLearnerBacked sent n.learner
  pub waiting : (k : Key) → Contains (waiting_keys n) k → Contains typed k
