-- What the command `frozen` answers, reads and writes.
use Rattle.std.specs.Prelude.{◌≡◌, ◌⊎◌, ℕ, List, Option, Some}
use Rattle.base.specs.Calls.{Mut}
use Rattle.machine_run.specs.Files.{HasReadAll}
use Rattle.machine_run.specs.declared.run.RunIo.TheVariants.{Memory, Read, Write}
use Rattle.machine_run.specs.declared.refusal.MachineRefusal.TheVariants.{File, Run}
use Rattle.machine_state.specs.declared.command.Stated.{Stated}
use Rattle.machine_state.specs.Command.{HasTold}
use Rattle.machine_frozen.specs.declared.refusal.FrozenRefusal.{FrozenRefusal}
use Rattle.machine_frozen.specs.declared.refusal.FrozenRefusal.TheVariants.{Machine}
use Rattle.machine_frozen.specs.Refusals.{IsBytesRefusal, IsFrozenRefusal}
use Rattle.machine_frozen.specs.Text.{IsOriginalText}

-- A call that has read all of its input, and has told where the original of this frozen code file
-- waits after it.
pub record WritesOriginalOf (bytes : List ℕ) (from to wrote_from wrote_to : Option (List ℕ))
    (steps : ℕ) (stated : Stated) : Type 0 where
  pub input : List ℕ
  pub read : HasReadAll from to input
  pub text : Option (List ℕ)
  pub exact : IsOriginalText bytes input steps text
  pub told : HasTold wrote_from wrote_to text stated

-- Why such a call was refused: the file's bytes were, and nothing was read or written; reading
-- failed or memory ran out, and nothing was written; the file was refused on the whole input, and
-- nothing was written; or a write of the text failed.
-- Forbids: a failed write where there is nothing to write.
abbrev pub IsOriginalRefusal : {R W : Type 0} → (R → Option (List ℕ)) → List ℕ → ℕ → Mut R
    → Mut W → FrozenRefusal → Type 0
IsOriginalRefusal remaining bytes steps reader writer e =
    (IsBytesRefusal bytes e × (reader.exit.now ≡ reader.entry.now)
    × (writer.exit.now ≡ writer.entry.now))
    ⊎ (((e ≡ Machine (Run Read)) ⊎ (e ≡ Machine (Run Memory)))
    × (writer.exit.now ≡ writer.entry.now))
    ⊎ ((input : List ℕ) × HasReadAll (remaining reader.entry.now) (remaining reader.exit.now) input
    × ((IsFrozenRefusal bytes input steps e × (writer.exit.now ≡ writer.entry.now))
    ⊎ ((e ≡ Machine (Run Write)) × (text : List ℕ)
    × IsOriginalText bytes input steps (Some text))))

-- The same of some code file. What the file holds is unknown to contracts.
abbrev pub WritesOriginal : Option (List ℕ) → Option (List ℕ) → Option (List ℕ)
    → Option (List ℕ) → ℕ → Stated → Type 0
WritesOriginal from to wrote_from wrote_to steps stated =
    (bytes : List ℕ) × WritesOriginalOf bytes from to wrote_from wrote_to steps stated

-- Why the command was refused: the file can't be read or memory ran out, and nothing was read or
-- written; or as above.
abbrev pub IsCommandRefusal : {R W : Type 0} → (R → Option (List ℕ)) → ℕ → Mut R
    → Mut W → FrozenRefusal → Type 0
IsCommandRefusal remaining steps reader writer e =
    (((e ≡ Machine File) ⊎ (e ≡ Machine (Run Memory))) × (reader.exit.now ≡ reader.entry.now)
    × (writer.exit.now ≡ writer.entry.now))
    ⊎ ((bytes : List ℕ) × IsOriginalRefusal remaining bytes steps reader writer e)
