use Rattle.std.proofs.Common.{◌∙◌}
use Rattle.machine_run.proofs.Writing.{written_on}
use Rattle.machine_run.proofs.streams.write_all.Goals as goal

pub loop-rest-preserved : goal.loop-rest-preserved
loop-rest-preserved g c = record {
  written = written_on _ _ _ c.args.bytes.now _ c.loop-rest.rest.now c.in_ok-n.n c.loop-rest.invariant.written.1
      c.loop-rest.invariant.written.2 c.in_ok-n.ensures.fits c.in_ok-n.ensures.bytes;
  faults = c.in_ok-n.ensures.faults ∙ c.loop-rest.invariant.faults;
}
