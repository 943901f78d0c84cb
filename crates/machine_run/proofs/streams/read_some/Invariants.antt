use Rattle.std.proofs.Common.{◌≡◌, length}
use Rattle.std.specs.Io.KnownBytes.{Keeps}
use Rattle.machine_run.proofs.streams.read_some.Given as goal

abbrev pub invariant-loop : goal.invariant-loop
invariant-loop g l = record {
  room : length l.buffer ≡ length l.fn.buffer;
  bytes : Keeps (g.R.Read.remaining l.fn.reader) (g.R.Read.remaining l.reader);
  faults : l.faults ≡ l.fn.faults;
}
