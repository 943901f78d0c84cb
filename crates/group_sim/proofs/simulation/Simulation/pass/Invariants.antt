use Rattle.std.proofs.Common.{◌≡◌}
use Rattle.group_sim.specs.Moments.{AreDone, DeliversOne, moment}
use Rattle.group_sim.specs.Texts.{held}
use Rattle.group_sim.proofs.simulation.Simulation.pass.Given as goal

abbrev pub invariant-loop-before : goal.invariant-loop-before
invariant-loop-before g l =
    let known = held g.W.ByteWriter.contents g.W.ByteWriter.write_faults in
    record {
      size : l.self.size ≡ l.fn.self.size;
      done : AreDone (DeliversOne l.line l.message l.to) 1 l.before (moment l.fn.self (known l.fn.writer))
          (moment l.self (known l.writer));
    }
