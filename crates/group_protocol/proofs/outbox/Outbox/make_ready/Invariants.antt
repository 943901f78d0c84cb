use Rattle.std.proofs.Common.{◌≡◌, ◌≤◌, ◌-◌, vec_len}
use Rattle.group_protocol.proofs.outbox.Outbox.make_ready.Given as goal

abbrev pub invariant-loop-self : goal.invariant-loop-self
invariant-loop-self l = record {
  packets : l.self-inside.packets ≡ l.initial.self-inside.packets;
  grown : vec_len l.initial.self-inside.spares ≤ vec_len l.self-inside.spares;
}

abbrev pub decreases-loop-self : goal.decreases-loop-self
decreases-loop-self l = l.count - vec_len l.self-inside.spares
