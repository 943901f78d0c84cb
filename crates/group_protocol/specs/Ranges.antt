-- Nodes in their ranges. What such a node sends has a spelling, whatever was sent before.
use Rattle.std.specs.Prelude.{◌≡◌, ℕ, ◌+◌, ◌^◌, ◌<◌, ◌≤◌, All, List, length, IfSome, Option, Some}
use Rattle.paxos_msg.specs.declared.ballot.Ballot.{Ballot}
use Rattle.paxos_msg.specs.declared.value.Value.{Value}
use Rattle.paxos_msg.specs.Datagrams.{Fits}
use Rattle.paxos_msg.specs.Fits.{IsBallot, IsNode, IsValue, AreBytes}
use Rattle.paxos_msg.specs.Bodies.{IsBody}
use Rattle.paxos_msg.specs.declared.message.Body.TheVariants.{Submit}
use Rattle.paxos_msg.specs.Batches.{Body}
use Rattle.paxos_acceptor.specs.declared.me.Me.{Me}
use Rattle.paxos_acceptor.specs.Records.{IsRecord}
use Rattle.paxos_proposer.specs.Proposer.{Proposer}
use Rattle.paxos_proposer.specs.States.{IsProposerInRange}
use Rattle.paxos_learner.specs.Learner.{AreInWindow, IsLearnerInRange, Learner}
use Rattle.group_protocol.specs.Known.{Response, Known}
use Rattle.group_protocol.specs.Packets.{Packet}
use Rattle.group_protocol.specs.Pump.{accepts_of, Proposals}
use Rattle.paxos_msg.specs.declared.limits.TheConstants.{MOST_NODES}
use Rattle.group_protocol.specs.declared.limits.TheConstants.{MOST_WAITING}

-- The nodes of a group of at most nine.
pub record IsMember (me : Me) : Type 0 where
  pub node : IsNode me.group.size me.node
  pub few : me.group.size ≤ MOST_NODES

-- The proposers of this node.
-- Forbids: a proposer under another node's ballot.
pub record IsOwnProposer (me : Me) (p : Proposer) : Type 0 where
  pub size : p.size ≡ me.group.size
  pub own : p.ballot.node ≡ me.node
  pub ranges : IsProposerInRange p

-- The learners of this group.
pub record IsOwnLearner (me : Me) (l : Learner) : Type 0 where
  pub size : l.size ≡ me.group.size
  pub ranges : IsLearnerInRange l
  pub window : AreInWindow l.learned

-- The characters that may wait.
-- They are at most 256. The serials of their keys, from this one on, are at least 1 and fit four
-- bytes.
-- Forbids: 257 characters that wait.
pub record IsWaiting (first : ℕ) (bytes : List ℕ) : Type 0 where
  pub some : 0 < first
  pub fits : first + length bytes ≤ 2 ^ 32
  pub few : length bytes ≤ MOST_WAITING
  pub characters : AreBytes bytes

-- The nodes in their ranges: started, a node of its group, with all parts in their ranges and of
-- its group.
-- Allows: a node that has heard nothing.
pub record IsInRange (n : Known) : Type 0 where
  pub me : IsMember n.me
  pub kept : IsRecord n.me.group.size n.kept
  pub counted : 0 < n.kept.starts
  pub proposer : IfSome n.proposer (IsOwnProposer n.me)
  pub learner : IsOwnLearner n.me n.learner
  pub waiting : IsWaiting n.first n.waiting

-- The ballots of the node's group.
abbrev pub IsGroupBallot : Known → Ballot → Type 0
IsGroupBallot n b = IsBallot n.me.group.size b

-- The values of the node's group.
abbrev pub IsGroupValue : Known → Value → Type 0
IsGroupValue n v = IsValue n.me.group.size v

-- The messages of node `j` that have a spelling in the node's group.
abbrev pub IsHeardFit : Me → ℕ → Body → Type 0
IsHeardFit me j body = Fits me.group (record { sender = j; body = body })

-- The batches, or none, that the node may submit.
abbrev pub MaySubmit : Me → Option Value → Type 0
MaySubmit me batch = (v : Value) → batch ≡ Some v → IsBody me.group.size me.node (Submit v)

-- The packets of a node that all have a spelling.
abbrev pub AllFit : Me → List Packet → Type 0
AllFit me packets = All (λ packet. IsBody me.group.size me.node packet.body) packets

-- The responses of this node that fit: the same node, in its ranges, and packets that have a
-- spelling.
pub record IsFit (me : Me) (done : Response) : Type 0 where
  pub same : done.node.me ≡ me
  pub ranges : IsInRange done.node
  pub sends : AllFit me done.sends

-- The proposals of this node's proposer that fit.
-- The proposer is still the node's, under the same ballot, and each proposal has a spelling as an
-- Accept.
pub record AreFit (me : Me) (p : Proposer) (proposals : Proposals) : Type 0 where
  pub own : IsOwnProposer me proposals.proposer
  pub ballot : proposals.proposer.ballot ≡ p.ballot
  pub sends : AllFit me (accepts_of proposals.made)
