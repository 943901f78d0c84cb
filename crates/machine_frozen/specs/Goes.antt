-- A frozen program that goes on as its original does.
use Rattle.std.specs.Prelude.{◌≡◌, ℕ, List, [], None}
use Rattle.pcode_file.specs.Parts.{Parts}
use Rattle.pcode_machine.specs.Configuration.{State, Configuration}
use Rattle.machine_state.specs.Halt.{HaltsIn}
use Rattle.pcode_frozen.specs.declared.pairs.Pair.{Pair}
use Rattle.pcode_frozen.specs.States.{AreTwins}
use Rattle.pcode_frozen.specs.Twins.{listed, AreTwinPrograms}

-- The configuration in which a program waits on no input before `steps` steps are made.
-- It has read and written nothing.
-- Forbids: an end, and a byte that was written.
pub record WakesIn (q : Parts) (steps : ℕ) : Type 0 where
  pub woken : Configuration
  pub waits : HaltsIn q [] steps None woken
  pub unread : woken.read ≡ 0
  pub silent : woken.output ≡ []

-- A frozen program `q` that wakes, and that waits on the whole `input` in `d`, where its original
-- `p` waits in the state `s`.
-- The pairs of places are closed, and both states are alike.
pub record GoesOnAs (p q : Parts) (pairs : List Pair) (input : List ℕ) (steps : ℕ) (s : State)
    (d : Configuration) : Type 0 where
  pub wakes : WakesIn q steps
  pub waits : HaltsIn q input steps None d
  pub closed : AreTwinPrograms p q (listed pairs)
  pub twins : AreTwins q (listed pairs) s d.state
