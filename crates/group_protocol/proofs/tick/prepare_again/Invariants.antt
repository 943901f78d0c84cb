use Rattle.std.proofs.Common.{◌+◌, ◌≤◌, length}
use Rattle.group_protocol.specs.Tick.{asks_again}
use Rattle.group_protocol.proofs.Places.{ArePut}
use Rattle.group_protocol.proofs.tick.prepare_again.Given as goal

abbrev pub invariant-loop-before : goal.invariant-loop-before
invariant-loop-before l = record {
  put : ArePut l.me (asks_again l.proposer.known) 1 l.initial.outbox.packets l.outbox.packets l.before;
  ready : l.initial.outbox.ready ≤ l.outbox.ready + l.before;
  room : length l.outbox.packets ≤ length l.initial.outbox.packets + l.before;
}
