use Rattle.std.proofs.Common.{◌≡◌, ◌-◌, ◌≤◌}
use Rattle.machine_run.specs.Run.{Reached}
use Rattle.machine_run.specs.Streams.{streams}
use Rattle.machine_run.proofs.run.run_program.Given as goal

abbrev pub invariant-loop-left : goal.invariant-loop-left
invariant-loop-left g l = record {
  program : l.machine.program ≡ l.program;
  run : Reached l.program
      (streams g.R.ByteReader.remaining g.R.ByteReader.read_faults g.W.ByteWriter.contents g.W.ByteWriter.write_faults
      l.fn.reader l.fn.writer)
      (streams g.R.ByteReader.remaining g.R.ByteReader.read_faults g.W.ByteWriter.contents g.W.ByteWriter.write_faults
      l.reader l.writer)
      (l.steps - l.left) l.machine.state;
  few : l.left ≤ l.steps;
}

abbrev pub decreases-loop-left : goal.decreases-loop-left
decreases-loop-left g l = l.left
