-- The output of a node that was released, and the part of it that is written.
use Rattle.std.specs.Prelude.{◌≡◌, ℕ, ◌+◌, ◌-◌, List, drop, length, take}
use Rattle.pcode_file.specs.Parts.{Parts}
use Rattle.pcode_machine.specs.Runs.{out}
use Rattle.group_node.specs.Output.{Progress, unreleased_of}
use Rattle.group_node.specs.States.{NodeState}
use Rattle.group_wire.specs.Turns.{released_of}

-- The released bytes with a number from `seen` on.
-- Allows: no byte, if all were seen.
abbrev pub released_from : ℕ → List ℕ → Progress → List ℕ
released_from seen x q = drop seen (released_of x q)

-- The waiting bytes with a number from `seen` on.
abbrev pub unreleased_from : ℕ → List ℕ → Progress → List ℕ
unreleased_from seen x q = drop (seen - q.released) (unreleased_of x q)

-- The progress of a node once all bytes that wait are released.
abbrev pub all_released : List ℕ → Progress → Progress
all_released x q = record q { released = q.released + length (unreleased_of x q) }

-- The first `k` bytes of a program's output on the input `z`.
pub record AreFirst (p : Parts) (z : List ℕ) (k : ℕ) (bytes : List ℕ) : Type 0 where
  pub steps : ℕ
  pub first : bytes ≡ take k (out p z steps)
  pub many : length bytes ≡ k

-- Two states of a node that runs the same program.
abbrev pub SameProgram : {S : Type 0} → NodeState S → NodeState S → Type 0
SameProgram old new = new.progress.program ≡ old.progress.program
