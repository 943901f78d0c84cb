-- Where a run of a program on a whole input halts.
use Rattle.std.specs.Prelude.{◌≡◌, ℕ, ◌<◌, List, length, Option, None, Some}
use Rattle.pcode_file.specs.Parts.{Parts}
use Rattle.pcode_machine.specs.declared.turn.End.{End}
use Rattle.pcode_machine.specs.Configuration.{State, Configuration, configuration_of}
use Rattle.pcode_machine.specs.Transition.{Transition, Stops, Waiting, transition}
use Rattle.pcode_machine.specs.Runs.{LeadsIn}
use Rattle.machine_state.specs.declared.halt.Halt.{Halt}

-- What comes next at a halt: the program has ended, or, without an end, it waits for a byte.
abbrev pub halted_by : Option End → Transition
halted_by None = Waiting
halted_by (Some end) = Stops end

-- A configuration in which a run on the whole `input` halts, by this end or by waiting.
-- Fewer than `steps` steps lead to it from the start. The program has ended, or it waits and has
-- read all of the input.
-- Allows: an end before all input is read.
-- Forbids: a wait while input is left, and a run that could make one more step.
pub record HaltsIn (p : Parts) (input : List ℕ) (steps : ℕ) (end : Option End)
    (c : Configuration) : Type 0 where
  pub n : ℕ
  pub few : n < steps
  pub made : LeadsIn p input n c
  pub over : transition p input c ≡ halted_by end

-- A run on `input` of which all `steps` steps exist, so that it halts in fewer nowhere.
pub record IsSpent (p : Parts) (input : List ℕ) (steps : ℕ) : Type 0 where
  pub last : Configuration
  pub made : LeadsIn p input steps last

-- The state, and how a run ended that came to it, with the numbers of bytes read and written.
pub record HasHalted (p : Parts) (input : List ℕ) (steps : ℕ) (s : State) (h : Halt)
    : Type 0 where
  pub output : List ℕ
  pub halts : HaltsIn p input steps h.end (configuration_of s h.read output)
  pub wrote : length output ≡ h.wrote
