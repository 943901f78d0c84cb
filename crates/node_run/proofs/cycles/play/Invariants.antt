use Rattle.std.proofs.Common.{◌≡◌, false}
use Rattle.node_run.specs.Cycles.{AreCycles, run_moment}
use Rattle.node_run.specs.Course.{around_of}
use Rattle.node_run.proofs.cycles.play.Given as goal

-- as many cycles were made as turns were counted, and no write has failed
abbrev pub invariant-loop : goal.invariant-loop
invariant-loop g l = record {
  works : l.host.protocol.is_stopped ≡ false;
  faults : g.W.ByteWriter.write_faults l.writer ≡ g.W.ByteWriter.write_faults l.fn.writer;
  cycles : AreCycles g.S.Store.kind l.plan.seen l.counter
      (run_moment l.fn.host (around_of g.T.Wire.traffic g.K.Keyboard.keys l.fn.endpoints) (g.W.ByteWriter.contents l.fn.writer))
      (run_moment l.host (around_of g.T.Wire.traffic g.K.Keyboard.keys l.endpoints) (g.W.ByteWriter.contents l.writer));
}
