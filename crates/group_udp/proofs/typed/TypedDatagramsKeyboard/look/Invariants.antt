use Rattle.std.proofs.Common.{◌≡◌}
use Rattle.node_io.specs.Prompts.{Remaining, with_more}
use Rattle.group_udp.proofs.typed.TypedDatagramsKeyboard.look.Given as goal

-- what the queue had, and what has come
abbrev pub invariant-loop : goal.invariant-loop
invariant-loop g l = (came : Remaining) × (l.self ≡ with_more came l.initial.self)
