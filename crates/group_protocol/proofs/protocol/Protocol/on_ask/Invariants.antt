use Rattle.std.proofs.Common.{◌+◌, ◌-◌, ◌≤◌, length}
use Rattle.group_protocol.specs.LearnerResponses.{tell_packet}
use Rattle.group_protocol.proofs.Places.{ArePut}
use Rattle.group_protocol.proofs.protocol.Protocol.on_ask.Given as goal

abbrev pub invariant-loop-place : goal.invariant-loop-place
invariant-loop-place g l = record {
  put : ArePut l.self-inside.me
      (tell_packet l.self-inside.learner.learned l.sender) l.from l.initial.outbox.packets l.outbox.packets
      (l.place - l.from);
  end : l.place - l.from ≤ l.upto - l.from;
  ready : l.upto - l.place ≤ l.outbox.ready;
  room : length l.outbox.packets ≤ length l.initial.outbox.packets + (l.place - l.from);
}
