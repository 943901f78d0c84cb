-- The count is that of the nodes so far that have accepted it.
use Rattle.std.proofs.Common.{◌≤◌}
use Rattle.paxos_msg.specs.declared.message.Body.TheVariants.{Accepted}
use Rattle.paxos_msg.specs.Messages.{IsSent}
use Rattle.paxos_msg.proofs.CountingNodes.{IsCounted}
use Rattle.paxos_msg.proofs.choosing.is_chosen_by.Given as goal

abbrev pub invariant-loop-before : goal.invariant-loop-before
invariant-loop-before l = record {
  counted : IsCounted (λ i. IsSent l.sent i (Accepted l.ballot l.place l.value)) l.before l.accepted;
  few : l.accepted ≤ l.before;
}
