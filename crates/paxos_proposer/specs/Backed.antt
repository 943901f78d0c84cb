-- Proposers that the messages back.
use Rattle.std.specs.Prelude.{◌≡◌, ℕ, ◌≤◌, Bool, IsTrue, length, Option, Some}
use Rattle.paxos_msg.specs.declared.ballot.Ballot.{Ballot}
use Rattle.paxos_msg.specs.declared.value.Value.{Value}
use Rattle.paxos_msg.specs.Batches.{Body, Sent, Vote}
use Rattle.paxos_msg.specs.declared.message.Body.TheVariants.{Accept}
use Rattle.paxos_msg.specs.Messages.{IsSent, IsSaid, IsPromised, kept_vote_at}
use Rattle.paxos_msg.specs.Sending.{IsBest}
use Rattle.paxos_proposer.specs.Proposer.{Proposer, is_covered_by, next_of, proposed_at}

-- The members gave single promises for ballot `b` at place `s`, one each, and `kept` is the
-- greatest vote that they reported.
-- Source: Simple 2.2, P2c.
pub record HasPromises (sent : Sent) (b : Ballot) (s : ℕ) (members : ℕ → Bool)
    (kept : Option Vote) : Type 0 where
  pub reported : ℕ → Option Vote
  pub promised : (i : ℕ) → IsTrue (members i) → IsPromised sent i b s (reported i)
  pub is_best : IsBest members reported kept

-- The messages back the proposer of node `me`. From its next place on its votes are those promised
-- to its ballot. The Accepts under its ballot are of what it has proposed, and it has sent each.
-- Source: Simple 2.2, P2c.
-- Allows: A proposer that has heard nothing.
-- Forbids: An Accept under its ballot of what it has not proposed.
pub record IsProposerBacked (sent : Sent) (me : ℕ) (p : Proposer) : Type 0 where
  pub own : p.ballot.node ≡ me
  pub nodes : length p.coverages ≡ 10
  pub heard : (s : ℕ) → next_of p ≤ s
      → HasPromises sent p.ballot s (is_covered_by p.coverages s) (kept_vote_at p.kept s)
  pub sent_all : (s : ℕ) (v : Value) → proposed_at p s ≡ Some v
      → IsSent sent me (Accept p.ballot s v)
  pub only : (s : ℕ) (v : Value) → IsSaid sent (Accept p.ballot s v) → proposed_at p s ≡ Some v

-- Each message that was sent stays sent, and nothing new was proposed under ballot `b`.
-- Allows: Any other message.
-- Forbids: A new Accept under the ballot.
pub record IsQuietUnder (b : Ballot) (sent next : Sent) : Type 0 where
  pub stays : (i : ℕ) (body : Body) → IsSent sent i body → IsSent next i body
  pub quiet : (s : ℕ) (v : Value) → IsSaid next (Accept b s v) → IsSaid sent (Accept b s v)
