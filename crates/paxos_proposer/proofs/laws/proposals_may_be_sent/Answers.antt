use Rattle.std.proofs.Common.{inl}
use Rattle.paxos_proposer.proofs.Proposals.{may_propose, proposing_backed}
use Rattle.paxos_proposer.proofs.laws.proposals_may_be_sent.Goals as goal

pub returns : goal.returns
returns c = record {
  sends = λ typed learned sent me r p offered v h free e. may_propose sent me p h v typed learned r offered free e;
  backed = λ sent me p v h. proposing_backed sent me p h v;
  again = λ typed learned sent me s r p v h e. (h.own, inl (h.sent_all s v e));
}
