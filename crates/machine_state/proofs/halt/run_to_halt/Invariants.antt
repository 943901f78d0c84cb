use Rattle.std.proofs.Common.{◌≡◌, ◌-◌, ◌≤◌, length}
use Rattle.machine_state.proofs.Running.{Ahead}
use Rattle.machine_state.proofs.halt.run_to_halt.Given as goal

abbrev pub invariant-loop-left : goal.invariant-loop-left
invariant-loop-left l = record {
  program : l.machine.program ≡ l.fn.machine.program;
  run : Ahead l.fn.machine.program l.input (l.steps - l.left) l.machine.state l.read l.wrote;
  few : l.left ≤ l.steps;
  short : l.read ≤ length l.input;
  little : l.wrote ≤ l.steps - l.left;
}

abbrev pub decreases-loop-left : goal.decreases-loop-left
decreases-loop-left l = l.left
