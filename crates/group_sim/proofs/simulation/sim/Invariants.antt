use Rattle.std.proofs.Common.{◌≡◌, ◌+◌}
use Rattle.group_world.specs.Group.{new_world}
use Rattle.group_sim.specs.Moments.{AreDone, LineIsDone, first_moment, moment}
use Rattle.group_sim.specs.Texts.{held}
use Rattle.group_sim.proofs.simulation.sim.Given as goal

-- the line before has this number, and all up to it were done
abbrev pub invariant-loop-line : goal.invariant-loop-line
invariant-loop-line g l =
    let known = held g.W.ByteWriter.contents g.W.ByteWriter.write_faults in
    record {
      number : l.number ≡ l.line-index + 1;
      size : l.simulation.size ≡ l.script.size;
      done : AreDone (LineIsDone l.script.size l.script.lines.items) 2 l.line-index
          (first_moment (new_world l.program (record { size = l.script.size; session = l.script.session })) (known l.fn.writer))
          (moment l.simulation (known l.writer));
    }
