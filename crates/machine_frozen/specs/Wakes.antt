-- What the stages of the command answer.
use Rattle.std.specs.Prelude.{◌≡◌, ℕ, ◌+◌, [], Bool, true, false, None}
use Rattle.pcode_file.specs.Parts.{Parts}
use Rattle.machine_state.specs.Halt.{IsSpent}
use Rattle.machine_state.specs.declared.halt.Halt.{Halt}
use Rattle.machine_frozen.specs.Goes.{WakesIn}

-- Whether a program waits on no input, or all steps were made before.
abbrev pub HasWoken : Parts → ℕ → Bool → Type 0
HasWoken q steps true = WakesIn q steps
HasWoken q steps false = IsSpent q [] steps

-- A halt by waiting, and the same one counted from the start of the original on.
pub record IsCountedFrom (halt : Halt) (read wrote : ℕ) (whole : Halt) : Type 0 where
  pub waits : halt.end ≡ None
  pub end : whole.end ≡ None
  pub read_is : whole.read ≡ read + halt.read
  pub wrote_is : whole.wrote ≡ wrote + halt.wrote
