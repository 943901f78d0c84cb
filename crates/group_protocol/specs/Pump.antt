-- Proposals of a proposer, one after another.
use Rattle.std.specs.Prelude.{ℕ, zero, suc, List, [], ◌∷◌, map, Option, Some, None}
use Rattle.paxos_msg.specs.declared.value.Value.{Value}
use Rattle.paxos_msg.specs.declared.message.Body.TheVariants.{Accept}
use Rattle.paxos_msg.specs.Batches.{Vote}
use Rattle.paxos_proposer.specs.Proposer.{Proposer, next_value, proposal, proposing}
use Rattle.group_protocol.specs.Packets.{Packet, to_all}

-- A proposer after some proposals, and the proposals in order.
pub record Proposals : Type 0 where
  pub proposer : Proposer
  pub made : List Vote

-- No proposal.
abbrev pub stop : Proposer → Proposals
stop p = record { proposer = p; made = [] }

-- The proposal of a value, if there is one, and what follows it.
abbrev pub propose : Proposer → Option Value → (Proposer → Proposals) → Proposals
propose p None go_on = stop p
propose p (Some v) go_on = record {
  proposer = (go_on (proposing p (Some v))).proposer;
  made = proposal p v ∷ (go_on (proposing p (Some v))).made;
}

-- Up to `n` proposals with no value offered.
-- Source: Simple 2.2, phase 2(a); 3, gaps are filled by no-ops.
-- Allows: fewer, if the proposer has no more to make.
-- Forbids: a value of the node's own.
unfoldable pub pump : ℕ → Proposer → Proposals
pump zero p = stop p
pump (suc n) p = propose p (next_value p None) (pump n)

-- The proposal of what is offered, if no kept vote decides what to propose.
-- Source: Simple 2.2, phase 2(a).
abbrev pub offer : Proposer → Value → Proposals
offer p v = propose p (next_value p (Some v)) stop

-- The Accepts of the proposals, to all.
-- Source: Simple 2.2, phase 2(a).
abbrev pub accepts_of : List Vote → List Packet
accepts_of votes = map (λ vote. to_all (Accept vote.ballot vote.place vote.value)) votes
