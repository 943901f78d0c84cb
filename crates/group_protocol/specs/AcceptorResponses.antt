-- A node after a Prepare and an Accept: its acceptor answers.
use Rattle.std.specs.Prelude.{ℕ, [], ◌∷◌, Option, Some, None, is_some, if◌then◌else◌}
use Rattle.paxos_msg.specs.declared.ballot.Ballot.{Ballot}
use Rattle.paxos_msg.specs.declared.value.Value.{Value}
use Rattle.paxos_msg.specs.Batches.{Record}
use Rattle.paxos_acceptor.specs.Answers.{Answer, accept_of, after, prepare_of, greater_promise}
use Rattle.paxos_proposer.specs.Proposer.{Proposer}
use Rattle.group_protocol.specs.declared.packet.To.{To}
use Rattle.group_protocol.specs.declared.packet.To.TheVariants as whom
use Rattle.group_protocol.specs.Known.{Known, Response}

-- The proposer, unless the promised ballot is above its own.
-- Source: Simple 2.2, a proposal may be abandoned.
-- Allows: a proposer under the promised ballot itself.
-- Forbids: a proposer below the promised ballot.
abbrev pub unless_passed : Option Ballot → Option Proposer → Option Proposer
unless_passed promised None = None
unless_passed promised (Some p) =
    if is_some (greater_promise promised p.ballot) then None else Some p

-- The node with this record.
-- Its proposer goes if the promised ballot is above the proposer's own.
-- Source: Simple 2.2.
abbrev pub with_kept : Known → Record → Known
with_kept n r = record n { kept = r; proposer = unless_passed r.promised n.proposer }

-- The response with an acceptor's answer: its change is saved, and what it says is sent.
-- Source: Simple 2.2, phases 1(b) and 2(b); 2.5.
-- Forbids: an answer before its save.
abbrev pub answering : Known → To → Answer → Response
answering n to answer = record {
  node = with_kept n (after n.kept answer.saves);
  saves = answer.saves;
  sends = record { to = to; body = answer.says } ∷ [];
}

-- The response to a Prepare: the acceptor's answer goes to the ballot's node.
-- Source: Simple 2.2, phase 1(b).
-- Allows: the same answer again, without a save.
abbrev pub on_prepare : Known → Ballot → ℕ → Response
on_prepare n b from = answering n (whom.One b.node) (prepare_of n.kept b from)

-- The addressees of the answer to an Accept: all, or the ballot's node if a greater ballot is
-- promised.
-- Source: Simple 2.3, each acceptor informs each learner.
abbrev pub accept_answered_to : Option Ballot → Ballot → To
accept_answered_to None b = whom.All
accept_answered_to (Some greater) b = whom.One b.node

-- The response to an Accept: the acceptor's answer, an Accepted to all or a Refused to the ballot's
-- node.
-- Source: Simple 2.2, phase 2(b); 2.3.
-- Allows: the same answer again, without a save.
abbrev pub on_accept : Known → Ballot → ℕ → Value → Response
on_accept n b s v =
    answering n (accept_answered_to (greater_promise n.kept.promised b) b) (accept_of n.kept b s v)
