use Rattle.std.proofs.Common.{◌≡◌}
use Rattle.std.specs.Io.KnownBytes.{Keeps}
use Rattle.machine_run.proofs.streams.write_some.Given as goal

abbrev pub invariant-loop : goal.invariant-loop
invariant-loop g l = record {
  bytes : Keeps (g.W.Write.contents l.fn.writer) (g.W.Write.contents l.writer);
  faults : l.faults ≡ l.fn.faults;
}
