use Rattle.std.proofs.Common.{◌≡◌, ◌≤◌, ◌↔◌, List, true, length}
use Rattle.group_wire.specs.Arrivals.{Arrival, GoesOn, lost_of}
use Rattle.group_wire.specs.Turns.{HearsSome}
use Rattle.group_wire.proofs.host.Host.hear_all.Given as goal

-- a datagram came at each receive so far, and no refusal has come
abbrev pub invariant-loop : goal.invariant-loop
invariant-loop g l = record {
  hears : (came : List Arrival)
      × HearsSome came GoesOn l.initial.self l.self
      (g.T.Wire.traffic l.initial.wire) (g.T.Wire.traffic l.wire)
      × (length came ≡ l.counter) × (lost_of came ≡ l.lost);
  few : l.lost ≤ l.counter;
  stops : (l.self.protocol.is_stopped ≡ true) ↔ (l.initial.self.protocol.is_stopped ≡ true);
  faults : (g.S.Store.kind.state l.self.protocol.store).faults ≡ (g.S.Store.kind.state l.initial.self.protocol.store).faults;
}
