use Rattle.std.proofs.Common.{◌≡◌, ◌+◌, ◌-◌, ◌≤◌, length}
use Rattle.std.specs.List.{filter_map, range_with_len}
use Rattle.paxos_learner.specs.Learner.{front_of}
use Rattle.paxos_proposer.specs.Proposer.{next_of}
use Rattle.group_protocol.specs.Tick.{accept_again}
use Rattle.group_protocol.proofs.Places.{ArePut}
use Rattle.group_protocol.proofs.tick.accept_all_again.Given as goal

abbrev pub invariant-loop-place : goal.invariant-loop-place
invariant-loop-place l = record {
  put : ArePut l.me (accept_again l.learner.learned l.proposer.known)
      (front_of l.learner.learned) l.initial.outbox.packets l.outbox.packets (l.place - front_of l.learner.learned);
  counted : length (filter_map (accept_again l.learner.learned l.proposer.known)
      (range_with_len (front_of l.learner.learned) (l.place - front_of l.learner.learned))) ≡ l.sent;
  few : l.sent ≤ 16;
  end : l.place - front_of l.learner.learned ≤ next_of l.proposer.known - front_of l.learner.learned;
  ready : l.initial.outbox.ready ≤ l.outbox.ready + l.sent;
  room : length l.outbox.packets ≤ length l.initial.outbox.packets + l.sent;
}
