-- Why a frozen code file is refused.
use Rattle.std.specs.Prelude.{◌≡◌, ◌≢◌, ◌⊎◌, ℕ, ◌+◌, ◌^◌, ◌≤◌, List, [], length, Option, Some, None}
use Rattle.pcode_file.specs.Parts.{Parts}
use Rattle.pcode_machine.specs.declared.turn.End.{End}
use Rattle.pcode_machine.specs.Configuration.{Configuration}
use Rattle.machine_run.specs.declared.run.RunIo.TheVariants.{Memory}
use Rattle.machine_run.specs.declared.refusal.MachineRefusal.TheVariants.{Run}
use Rattle.machine_run.specs.Files.{IsLoadRefusal}
use Rattle.machine_state.specs.Halt.{HaltsIn}
use Rattle.machine_state.specs.declared.halt.Halt.{Halt}
use Rattle.machine_frozen.specs.declared.refusal.FrozenRefusal.{FrozenRefusal}
use Rattle.machine_frozen.specs.declared.refusal.FrozenRefusal.TheVariants.{NotFrozen, Damaged, Original, Wakes, Ends, State, Program, Counts, Machine}
use Rattle.machine_frozen.specs.Goes.{WakesIn}
use Rattle.machine_frozen.specs.Text.{IsFrozenFile}
use Rattle.machine_frozen.specs.Trailer.{HasFooter, HasTrailer, IsDamaged}

-- A file that does not end as a frozen one does.
abbrev pub IsNotFrozen : List ℕ → Type 0
IsNotFrozen bytes = (body footer : List ℕ) → HasFooter bytes body footer → ⊥

-- Why the bytes of an original are refused.
abbrev pub IsOriginalLoad : List ℕ → FrozenRefusal → Type 0
IsOriginalLoad file (Original e) = IsLoadRefusal file e
IsOriginalLoad file _ = ⊥

-- Why the bytes of a frozen file are refused as a code file.
abbrev pub IsFrozenLoad : List ℕ → FrozenRefusal → Type 0
IsFrozenLoad bytes (Machine e) = IsLoadRefusal bytes e
IsFrozenLoad bytes _ = ⊥

-- Why the bytes of a file are refused before any input is looked at.
-- Forbids: `Damaged` of a file with no footer, and a refusal of what is loaded.
abbrev pub IsBytesRefusal : List ℕ → FrozenRefusal → Type 0
IsBytesRefusal bytes NotFrozen = IsNotFrozen bytes
IsBytesRefusal bytes Damaged = IsDamaged bytes
IsBytesRefusal bytes (Original e) =
    (rows file : List ℕ) × (read wrote : ℕ) × HasTrailer bytes rows file read wrote
    × IsLoadRefusal file e
IsBytesRefusal bytes (Machine e) = IsLoadRefusal bytes e
IsBytesRefusal bytes _ = ⊥

-- A program that halts on no input, and not to wait with nothing read or written.
pub record IsUnwoken (q : Parts) (steps : ℕ) : Type 0 where
  pub end : Option End
  pub c : Configuration
  pub halts : HaltsIn q [] steps end c
  pub not : (end ≢ None) ⊎ (c.read ≢ 0) ⊎ (c.output ≢ [])

-- Why such a program is refused: that, or memory ran out.
abbrev pub IsWakeRefusal : Parts → ℕ → FrozenRefusal → Type 0
IsWakeRefusal q steps Wakes = IsUnwoken q steps
IsWakeRefusal q steps e = e ≡ Machine (Run Memory)

-- Why a halt is not counted: it is an end, or a sum does not fit.
abbrev pub IsUncounted : Halt → ℕ → ℕ → FrozenRefusal → Type 0
IsUncounted halt read wrote Ends = halt.end ≢ None
IsUncounted halt read wrote Counts =
    (halt.end ≡ None) × ((2 ^ 64 ≤ read + halt.read) ⊎ (2 ^ 64 ≤ wrote + halt.wrote))
IsUncounted halt read wrote _ = ⊥

-- Why two programs are not seen to go on alike. That they do not is not said: the pairs of places
-- by which they are compared may be the wrong ones.
abbrev pub IsUnlike : FrozenRefusal → Type 0
IsUnlike e = (e ≡ State) ⊎ (e ≡ Program) ⊎ (e ≡ Machine (Run Memory))

-- A frozen program that has woken, and that halts on `input` in this configuration.
pub record HaltsWoken (q : Parts) (input : List ℕ) (steps : ℕ) (end : Option End)
    (c : Configuration) : Type 0 where
  pub wakes : WakesIn q steps
  pub halts : HaltsIn q input steps end c

-- Why the answer for a frozen program is refused on `input`.
-- `Ends`, `Counts`, `State` and `Program` come only if it wakes, and the last three only if it then
-- waits on the whole input.
-- Forbids: a refusal if the steps are spent.
abbrev pub IsAnswerRefusal : Parts → List ℕ → ℕ → ℕ → ℕ → FrozenRefusal → Type 0
IsAnswerRefusal q input steps read wrote Wakes = IsUnwoken q steps
IsAnswerRefusal q input steps read wrote Ends =
    (end : End) × (c : Configuration) × HaltsWoken q input steps (Some end) c
IsAnswerRefusal q input steps read wrote Counts =
    (c : Configuration) × HaltsWoken q input steps None c
    × ((2 ^ 64 ≤ read + c.read) ⊎ (2 ^ 64 ≤ wrote + length c.output))
IsAnswerRefusal q input steps read wrote State =
    (c : Configuration) × HaltsWoken q input steps None c
IsAnswerRefusal q input steps read wrote Program =
    (c : Configuration) × HaltsWoken q input steps None c
IsAnswerRefusal q input steps read wrote e = e ≡ Machine (Run Memory)

-- Why a frozen code file is refused on `input`: its bytes are, or the answer for its program is.
abbrev pub IsFrozenRefusal : List ℕ → List ℕ → ℕ → FrozenRefusal → Type 0
IsFrozenRefusal bytes input steps e =
    IsBytesRefusal bytes e
    ⊎ ((p q : Parts) × (read wrote : ℕ) × IsFrozenFile bytes p q read wrote
    × IsAnswerRefusal q input steps read wrote e)
