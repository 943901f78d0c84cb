-- What the command `state` answers, reads and writes.
use Rattle.std.specs.Prelude.{◌≡◌, ◌⊎◌, ℕ, List, Option, Some, None, string_bytes}
use Rattle.std.specs.declared.string.String.{String}
use Rattle.std.specs.Option.{option_map}
use Rattle.std.specs.Io.KnownBytes.{Appends}
use Rattle.base.specs.Calls.{Mut}
use Rattle.pcode_file.specs.Parts.{Parts}
use Rattle.pcode_machine.specs.declared.turn.End.{End}
use Rattle.pcode_machine.specs.Configuration.{Configuration}
use Rattle.machine_run.specs.Files.{HasReadAll, IsFileRefusal, IsLoadedProgram}
use Rattle.machine_run.specs.declared.run.RunIo.{RunIo}
use Rattle.machine_run.specs.declared.run.RunIo.TheVariants.{Memory, Read, Write}
use Rattle.machine_run.specs.declared.refusal.MachineRefusal.{MachineRefusal}
use Rattle.machine_run.specs.declared.refusal.MachineRefusal.TheVariants.{Run}
use Rattle.machine_state.specs.declared.command.Stated.{Stated}
use Rattle.machine_state.specs.declared.command.Stated.TheVariants.{Written, Spent}
use Rattle.machine_state.specs.Halt.{HaltsIn, IsSpent}
use Rattle.machine_state.specs.Text.{configuration_text}

-- The bytes of a text, if there is one.
abbrev pub text_bytes : {Z : Type 0} → Option (String Z) → Option (List ℕ)
text_bytes text = option_map string_bytes text

-- The text of the configuration in which a run on the whole `input` halts before `steps` steps are
-- made; none if it halts nowhere before.
-- Forbids: the text of another configuration, and no text if the run halts.
abbrev pub IsTextOf : Parts → List ℕ → ℕ → Option (List ℕ) → Type 0
IsTextOf p input steps None = IsSpent p input steps
IsTextOf p input steps (Some text) =
    (end : Option End) × (c : Configuration) × HaltsIn p input steps end c
    × (text ≡ configuration_text end c)

-- What a writer has got for a text: all of it if there is one, and else nothing.
abbrev pub HasTold : Option (List ℕ) → Option (List ℕ) → Option (List ℕ) → Stated → Type 0
HasTold from to (Some text) Written = Appends from to text
HasTold from to None Spent = to ≡ from
HasTold from to _ _ = ⊥

-- A call that has read all of its input, and has told where this program halts on it.
pub record WritesStateOf (program : Parts) (from to wrote_from wrote_to : Option (List ℕ))
    (steps : ℕ) (stated : Stated) : Type 0 where
  pub input : List ℕ
  pub read : HasReadAll from to input
  pub text : Option (List ℕ)
  pub exact : IsTextOf program input steps text
  pub told : HasTold wrote_from wrote_to text stated

-- Why such a call was refused: reading failed or memory ran out, and nothing was written; or a
-- write failed.
abbrev pub IsTextRefusal : {W : Type 0} → Mut W → RunIo → Type 0
IsTextRefusal writer e =
    (((e ≡ Read) ⊎ (e ≡ Memory)) × (writer.exit.now ≡ writer.entry.now)) ⊎ (e ≡ Write)

-- The same of some code file's program. What the file holds is unknown to contracts.
abbrev pub WritesState : Option (List ℕ) → Option (List ℕ) → Option (List ℕ) → Option (List ℕ) → ℕ
    → Stated → Type 0
WritesState from to wrote_from wrote_to steps stated =
    (program : Parts) × IsLoadedProgram program
    × WritesStateOf program from to wrote_from wrote_to steps stated

-- Why the command was refused: the file was, and nothing was read or written; or as above.
abbrev pub IsStateRefusal : {R W : Type 0} → Mut R → Mut W → MachineRefusal → Type 0
IsStateRefusal reader writer e =
    (IsFileRefusal e × (reader.exit.now ≡ reader.entry.now)
    × (writer.exit.now ≡ writer.entry.now))
    ⊎ ((fault : RunIo) × (e ≡ Run fault) × IsTextRefusal writer fault)
