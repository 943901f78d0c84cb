-- What a command that runs a code file does to a reader and a writer.
use Rattle.std.specs.Prelude.{◌≡◌, ◌⊎◌, ℕ, List, Result, Ok, Err}
use Rattle.base.specs.Calls.{Mut}
use Rattle.pcode_file.specs.Parts.{Parts}
use Rattle.pcode_file.specs.InFile.{InFile}
use Rattle.pcode_ops.specs.Reach.{IsLoadable}
use Rattle.machine_run.specs.Files.{IsFileRefusal, IsLoadRefusal, IsLoadedProgram}
use Rattle.machine_run.specs.Run.{RunsProgram}
use Rattle.machine_run.specs.Streams.{Streams}
use Rattle.machine_run.specs.declared.run.Finish.{Finish}
use Rattle.machine_run.specs.declared.run.RunIo.{RunIo}
use Rattle.machine_run.specs.declared.refusal.MachineRefusal.{MachineRefusal}
use Rattle.machine_run.specs.declared.refusal.MachineRefusal.TheVariants.{Run}

-- The answer of a command that runs a program, by that of the run.
abbrev pub command_answer : Result Finish RunIo → Result Finish MachineRefusal
command_answer (Ok finish) = Ok finish
command_answer (Err fault) = Err (Run fault)

-- A refusal before the run: nothing was read or written.
abbrev pub RefusesUnread : {R W : Type 0} → (MachineRefusal → Type 0) → Mut R → Mut W
    → Result Finish MachineRefusal → Type 0
RefusesUnread why reader writer result =
    (e : MachineRefusal) × why e × (reader.exit.now ≡ reader.entry.now)
    × (writer.exit.now ≡ writer.entry.now) × (result ≡ Err e)

-- A run of this program, of at most `steps` steps, with the answer of its command.
abbrev pub RunsLoaded : {R W : Type 0} → (R → W → Streams) → Parts → Mut R → Mut W → ℕ
    → Result Finish MachineRefusal → Type 0
RunsLoaded known program reader writer steps result =
    (answer : Result Finish RunIo) × RunsProgram known program reader writer steps answer
    × (result ≡ command_answer answer)

-- A run of the program that these bytes are, unless their load is refused.
-- Forbids: a run of another program.
abbrev pub RunsBytes : {R W : Type 0} → (R → W → Streams) → List ℕ → Mut R → Mut W → ℕ
    → Result Finish MachineRefusal → Type 0
RunsBytes known bytes reader writer steps result =
    RefusesUnread (IsLoadRefusal bytes) reader writer result
    ⊎ ((program : Parts) × InFile bytes program × IsLoadable program
    × RunsLoaded known program reader writer steps result)

-- A run of the program of a code file, unless the file is refused. What the file holds is unknown
-- to contracts.
abbrev pub RunsFile : {R W : Type 0} → (R → W → Streams) → Mut R → Mut W → ℕ
    → Result Finish MachineRefusal → Type 0
RunsFile known reader writer steps result =
    RefusesUnread IsFileRefusal reader writer result
    ⊎ ((program : Parts) × IsLoadedProgram program
    × RunsLoaded known program reader writer steps result)
