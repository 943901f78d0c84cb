use Rattle.std.proofs.Common.{◌+◌, ◌≤◌, length}
use Rattle.group_protocol.specs.Ranges.{IsOwnProposer}
use Rattle.group_protocol.proofs.Pumping.{IsPumping}
use Rattle.group_protocol.proofs.pump.pump.Given as goal

abbrev pub invariant-loop-made : goal.invariant-loop-made
invariant-loop-made l = record {
  own : IsOwnProposer l.me l.proposer.known;
  sure : l.initial.proposer.room ≤ l.proposer.room + l.made;
  ready : l.initial.outbox.ready ≤ l.outbox.ready + l.made;
  room : length l.outbox.packets ≤ length l.initial.outbox.packets + l.made;
  pumping : IsPumping l.me l.initial.proposer.known l.initial.outbox.packets l.outbox.packets l.made l.proposer.known;
}
