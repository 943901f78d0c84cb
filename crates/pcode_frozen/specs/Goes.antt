-- A program in which another one is frozen, and what ends and waits are on a whole input.
use Rattle.std.specs.Prelude.{◌≡◌, ℕ, List, [], length}
use Rattle.pcode_file.specs.Parts.{Parts}
use Rattle.pcode_machine.specs.declared.turn.End.{End}
use Rattle.pcode_machine.specs.Configuration.{Configuration}
use Rattle.pcode_machine.specs.Transition.{Stops, Waiting, transition}
use Rattle.pcode_machine.specs.Runs.{LeadsIn, after_steps}
use Rattle.pcode_frozen.specs.declared.pairs.Pair.{Pair}
use Rattle.pcode_frozen.specs.Twins.{listed, AreTwinPrograms}
use Rattle.pcode_frozen.specs.States.{AreTwinsAfter}

-- The end to which a program comes on a whole input.
abbrev pub HasEnd : Parts → List ℕ → End → Type 0
HasEnd p x e = (n : ℕ) × (transition p x (after_steps p x n) ≡ Stops e)

-- The claim that a program comes to wait for a byte after a whole input.
abbrev pub WaitsAfter : Parts → List ℕ → Type 0
WaitsAfter p x = (n : ℕ) × (transition p x (after_steps p x n) ≡ Waiting)

-- The facts of a program `q` in which `p` is frozen after the input `x`.
-- The pairs of places are closed. On `x` the program `p` comes to `c`, and has read all of it then.
-- On no input `q` comes to `d`, where it has read and written nothing. Both are alike.
pub record IsFrozenAfter (p q : Parts) (pairs : List Pair) (x : List ℕ) (c d : Configuration)
    : Type 0 where
  pub closed : AreTwinPrograms p q (listed pairs)
  pub steps : ℕ
  pub thaw : ℕ
  pub reaches : LeadsIn p x steps c
  pub thaws : LeadsIn q [] thaw d
  pub twins : AreTwinsAfter q (listed pairs) (length x) c.output c d

-- The lists of pairs that have each place of the other program once.
abbrev pub AreListedOnce : List Pair → Type 0
AreListedOnce pairs =
    (a b n i m k : ℕ) → listed pairs a b m k → listed pairs n i m k → (a ≡ n) × (b ≡ i)
