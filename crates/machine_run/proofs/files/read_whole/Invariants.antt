use Rattle.std.proofs.Common.{◌≡◌, ◌≤◌, length}
use Rattle.std.specs.Io.KnownBytes.{Consumes}
use Rattle.machine_run.specs.declared.files.TheConstants.{LONGEST_FILE}
use Rattle.machine_run.proofs.files.read_whole.Given as goal

abbrev pub invariant-loop : goal.invariant-loop
invariant-loop g l = record {
  whole : Consumes (g.R.Read.remaining l.fn.reader) (g.R.Read.remaining l.reader) l.bytes.items;
  faults : l.faults ≡ l.fn.faults;
  short : length l.bytes.items ≤ LONGEST_FILE;
  grown : l.counter ≤ length l.bytes.items;
}
