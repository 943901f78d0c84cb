use Rattle.std.proofs.Common.{◌≡◌}
use Rattle.group_world.specs.declared.event.Act.TheVariants.{Release}
use Rattle.group_sim.specs.Moments.{AreDone, HappensAt, moment}
use Rattle.group_sim.specs.Texts.{held}
use Rattle.group_world.specs.Event.{kept_event}
use Rattle.group_sim.proofs.simulation.Simulation.release_all.Given as goal

abbrev pub invariant-loop : goal.invariant-loop
invariant-loop g l =
    let known = held g.W.ByteWriter.contents g.W.ByteWriter.write_faults in
    record {
      size : l.self.size ≡ l.fn.self.size;
      done : AreDone (λ k. HappensAt l.line (kept_event (Release l.node))) 0 l.counter
          (moment l.fn.self (known l.fn.writer)) (moment l.self (known l.writer));
    }
