-- A node's machine as the code keeps it.
use Rattle.std.specs.Prelude.{◌≡◌, ℕ, ◌+◌, ◌<◌, ◌≤◌, List, ◌++◌, drop, length, Option, Some, None}
use Rattle.circular_buffer.specs.Buffer.{buffer}
use Rattle.pcode_machine.specs.Configuration.{configuration_of}
use Rattle.pcode_machine.specs.Transition.{transition, Stops, Waiting}
use Rattle.pcode_machine.specs.Runs.{after_steps, LeadsIn}
use Rattle.pcode_machine.specs.Turns.{Makes}
use Rattle.paxos_learner.specs.Input.{learned_input}
use Rattle.paxos_learner.specs.Learner.{Learner}
use Rattle.group_node.specs.declared.player.Player.{Player}
use Rattle.group_node.specs.declared.player.Ran.{Ran}
use Rattle.group_node.specs.declared.player.Ran.TheVariants as ran
use Rattle.group_node.specs.Output.{Progress, unreleased_of}
use Rattle.group_node.specs.declared.limits.TheConstants.{RING_BYTES}

-- The progress of a node's machine, which is what contracts see of it.
abbrev pub progress_of : Player → Progress
progress_of q = record { program = q.machine.program; steps = q.steps; released = q.released }

-- The invariant of a node's machine.
-- It has made its steps on the input `x`, all of them exist, and it has read `read` bytes of it.
-- The ring holds those bytes of the output that were not released. No more bytes were read or
-- written than steps were made.
pub record IsPlayed (x : List ℕ) (q : Player) : Type 0 where
  pub output : List ℕ
  pub made : LeadsIn q.machine.program x q.steps (configuration_of q.machine.state q.read output)
  pub read : q.read ≤ length x
  pub waits : q.unreleased.items ≡ drop q.released output
  pub released : q.released ≤ length output
  pub few : length output ≤ q.steps
  pub seldom : q.read ≤ q.steps
  pub room : length q.unreleased.items ≤ RING_BYTES
  pub capacity : q.unreleased.capacity ≡ RING_BYTES

-- A machine that has played the input that the learner has learned.
abbrev pub HasPlayedLearned : Learner → Player → Type 0
HasPlayedLearned l q = IsPlayed (learned_input l.learned) q

-- A ring with room for a byte.
abbrev pub HasByteRoom : Player → Type 0
HasByteRoom q = length q.unreleased.items < q.unreleased.capacity

-- One step, with the ring and the counts.
pub record PlaysStep (old new : Player) (took wrote : List ℕ) : Type 0 where
  pub program : new.machine.program ≡ old.machine.program
  pub made : Makes old.machine.program old.machine.state new.machine.state took wrote
  pub waits : new.unreleased ≡ buffer (old.unreleased.items ++ wrote) old.unreleased.capacity
  pub steps : new.steps ≡ old.steps + 1
  pub read : new.read ≡ old.read + length took
  pub released : new.released ≡ old.released
  pub short : length wrote ≤ 1
  pub one : length took ≤ 1

-- Why no step is made: the machine waits for a byte that the input does not have, or the program
-- has ended.
abbrev pub MakesNoStep : List ℕ → Player → Ran → Type 0
MakesNoStep x q ran.More = ⊥
MakesNoStep x q ran.Full = ⊥
MakesNoStep x q ran.Waits =
    transition q.machine.program x (after_steps q.machine.program x q.steps) ≡ Waiting
MakesNoStep x q (ran.Ended e) =
    transition q.machine.program x (after_steps q.machine.program x q.steps) ≡ Stops e

-- The machine before and after `k` steps that read and wrote nothing.
pub record Advances (x : List ℕ) (k : ℕ) (old new : Player) : Type 0 where
  pub exact : IsPlayed x new
  pub unreleased : new.unreleased ≡ old.unreleased
  pub program : new.machine.program ≡ old.machine.program
  pub released : new.released ≡ old.released
  pub steps : new.steps ≡ old.steps + k

-- The part of a run that makes at most `most` steps and has made `n` of them.
-- They are some that read and write nothing, and then one that takes or writes a byte; or the run
-- is over.
abbrev pub PlaysOn : List ℕ → ℕ → Player → Player → ℕ × Option Ran → Type 0
PlaysOn x most old new (n, None) =
    (k : ℕ) × (mid : Player) × Advances x k old mid × (k < most) × (n ≡ k + 1)
PlaysOn x most old new (n, Some ran.More) = (n ≡ most) × Advances x n old new
PlaysOn x most old new (n, Some ran.Full) = ⊥
PlaysOn x most old new (n, Some ran.Waits) =
    (n < most) × Advances x n old new × MakesNoStep x new ran.Waits
PlaysOn x most old new (n, Some (ran.Ended e)) =
    (n < most) × Advances x n old new × MakesNoStep x new (ran.Ended e)

-- The run that may come to `most` steps; `left` of them are left.
-- It is exact, and before each step that it made there was room for a byte.
pub record RanSoFar (x : List ℕ) (most left : ℕ) (old now : Player) : Type 0 where
  pub exact : IsPlayed x now
  pub program : now.machine.program ≡ old.machine.program
  pub released : now.released ≡ old.released
  pub more : old.steps ≤ now.steps
  pub budget : now.steps + left ≡ most
  pub room : (n : ℕ) → old.steps ≤ n → n < now.steps
      → length (unreleased_of x (record (progress_of old) { steps = n })) < RING_BYTES
