-- The output of a node: what its machine has written, and what of it was released.
use Rattle.std.specs.Prelude.{◌≡◌, ℕ, ◌+◌, ◌<◌, ◌≤◌, min, List, length, drop}
use Rattle.pcode_file.specs.Parts.{Parts}
use Rattle.pcode_machine.specs.Transition.{transition, Stops, Waiting}
use Rattle.pcode_machine.specs.Runs.{after_steps, out, LeadsIn}
use Rattle.group_node.specs.declared.player.Ran.{Ran}
use Rattle.group_node.specs.declared.player.Ran.TheVariants as ran
use Rattle.group_node.specs.declared.limits.TheConstants.{RING_BYTES}

-- The progress of a node: its program, the number of steps since its start, and the number of
-- released bytes.
pub record Progress : Type 0 where
  pub program : Parts
  pub steps : ℕ
  pub released : ℕ

-- The progress before the first step.
abbrev pub no_progress : Parts → Progress
no_progress p = record { program = p; steps = 0; released = 0 }

-- The output bytes that wait: those of the steps so far, on the input `x`, that were not released.
-- They are the output after these steps of a replay from the start, without the released bytes.
-- Forbids: a byte that waits twice.
abbrev pub unreleased_of : List ℕ → Progress → List ℕ
unreleased_of x q = drop q.released (out q.program x q.steps)

-- The facts of a replay from the start.
-- Each of the steps exists, no more was released than was written, and at most 256 bytes wait.
-- Source: Simple 3, each server runs the same deterministic state machine.
-- Allows: an input that has more bytes by now.
-- Forbids: a step on a byte that is not learned.
pub record IsReplay (x : List ℕ) (q : Progress) : Type 0 where
  pub made : LeadsIn q.program x q.steps (after_steps q.program x q.steps)
  pub released : q.released ≤ length (out q.program x q.steps)
  pub few : length (unreleased_of x q) ≤ RING_BYTES

-- The count of steps to which a run of at most `steps` more may come.
-- It ends at its greatest value, 18,446,744,073,709,551,615.
abbrev pub most_of : ℕ → ℕ → ℕ
most_of made steps = min (made + steps) 18446744073709551615

-- A run that has steps left, and room for a byte.
abbrev pub HasStepsAndRoom : List ℕ → ℕ → Progress → Type 0
HasStepsAndRoom x most q = (q.steps < most) × (length (unreleased_of x q) < RING_BYTES)

-- Why a run that may come to `most` steps is over.
-- `More` says that all steps were made; otherwise `Full` that 256 bytes wait; otherwise `Waits`
-- that the machine waits for a byte past the input, and `Ended` that the program has ended, and
-- how.
-- Forbids: a run that stops early and says that its steps are spent.
abbrev pub IsOver : List ℕ → ℕ → Progress → Ran → Type 0
IsOver x most q ran.More = q.steps ≡ most
IsOver x most q ran.Full = (q.steps < most) × (length (unreleased_of x q) ≡ RING_BYTES)
IsOver x most q ran.Waits =
    HasStepsAndRoom x most q × (transition q.program x (after_steps q.program x q.steps) ≡ Waiting)
IsOver x most q (ran.Ended e) =
    HasStepsAndRoom x most q × (transition q.program x (after_steps q.program x q.steps) ≡ Stops e)

-- The facts of a run of at most `steps` steps on the input `x`.
-- Before each step that it made fewer than 256 bytes waited. Only the count of steps has changed.
-- Allows: a run of no steps.
pub record RunsOn (x : List ℕ) (steps : ℕ) (old new : Progress) (answer : Ran) : Type 0 where
  pub rest : new ≡ record old { steps = new.steps }
  pub more : old.steps ≤ new.steps
  pub room : (n : ℕ) → old.steps ≤ n → n < new.steps
      → length (unreleased_of x (record old { steps = n })) < RING_BYTES
  pub over : IsOver x (most_of old.steps steps) new answer
