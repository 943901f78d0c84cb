use Rattle.std.proofs.Common.{◌≡◌, ◌-◌, ◌≤◌}
use Rattle.group_sim.specs.Moments.{AreDone, PassesOn, moment}
use Rattle.group_sim.specs.Texts.{held}
use Rattle.group_sim.proofs.simulation.Simulation.deliver_all.Given as goal

abbrev pub invariant-loop-message : goal.invariant-loop-message
invariant-loop-message g l =
    let known = held g.W.ByteWriter.contents g.W.ByteWriter.write_faults in
    record {
      size : l.self.size ≡ l.fn.self.size;
      from : l.fn.self.passed ≤ l.message;
      done : AreDone (PassesOn l.line l.fn.self.size) l.fn.self.passed (l.message - l.fn.self.passed)
          (moment l.fn.self (known l.fn.writer)) (moment l.self (known l.writer));
    }
