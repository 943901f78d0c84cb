use Rattle.std.proofs.Common.{◌≡◌}
use Rattle.node_run.proofs.answering.trace_typed.Given as goal

-- nothing has passed
abbrev pub invariant-loop-byte : goal.invariant-loop-byte
invariant-loop-byte g l = g.T.Wire.traffic l.wire ≡ g.T.Wire.traffic l.initial.wire
