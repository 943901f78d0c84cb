-- The state of a machine's parts.
use Rattle.std.specs.Prelude.{◌≡◌, Result, Ok, Err, OnErr}
use Rattle.pcode_machine.specs.declared.parts.MachineParts.{MachineParts}
use Rattle.pcode_machine.specs.declared.turn.Stop.{Stop}
use Rattle.pcode_machine.specs.Configuration.{State}

-- The state of a machine's parts.
abbrev pub state_of : MachineParts → State
state_of m = record {
  words = m.memory;
  frames = m.frames;
  stack = m.stack;
  next = m.next;
  io_result = m.io_result;
  transfer = m.transfer;
}

-- The state after an instruction, or why the program stops.
abbrev pub state_if_ok : Result Unit Stop → State → Result State Stop
state_if_ok (Ok u) s = Ok s
state_if_ok (Err stop) s = Err stop

-- The parts of a machine before and after an instruction, by the state after it.
-- Allows: that the program stops; then nothing changes.
pub record ChangesTo (after : Result State Stop) (old new : MachineParts)
    (result : Result Unit Stop) : Type 0 where
  pub value : after ≡ state_if_ok result (state_of new)
  pub err : OnErr result (new ≡ old)
