-- Files and inputs that are read whole, and why a load refuses their bytes.
use Rattle.std.specs.Prelude.{◌≡◌, ◌<◌, ◌≤◌, ◌⊎◌, ℕ, List, length, Option, Err}
use Rattle.std.specs.Io.KnownBytes.{Consumes, IsAtEnd}
use Rattle.base.specs.Faults.{HasRisen}
use Rattle.pcode_file.specs.Parts.{Parts}
use Rattle.pcode_file.specs.InFile.{InFile}
use Rattle.pcode_file.specs.Checks.{GivesUnlessMemory, read_from}
use Rattle.pcode_ops.specs.Reach.{IsLoadable, IsRefusal}
use Rattle.machine_run.specs.declared.files.TheConstants.{LONGEST_FILE}
use Rattle.machine_run.specs.declared.run.RunIo.{RunIo}
use Rattle.machine_run.specs.declared.run.RunIo.TheVariants.{Memory, Read, Write}
use Rattle.machine_run.specs.declared.refusal.MachineRefusal.{MachineRefusal}
use Rattle.machine_run.specs.declared.refusal.MachineRefusal.TheVariants.{CodeFile, File, Load, Run}

-- All the bytes that a reader had left, `LONGEST_FILE` at most. It is at its end after them.
pub record HasReadAll (from to : Option (List ℕ)) (bytes : List ℕ) : Type 0 where
  pub whole : Consumes from to bytes
  pub end : IsAtEnd to
  pub short : length bytes ≤ LONGEST_FILE

-- Why reading to the end was refused after this front of the bytes, where the reader had counted
-- `old` faults before and has counted `new` now.
-- Forbids: `Memory` after an empty front; `Read` where no read failed and few bytes came.
abbrev pub IsReadRefusal : List ℕ → ℕ → ℕ → RunIo → Type 0
IsReadRefusal front old new Read =
    HasRisen old new ⊎ ((new ≡ old) × (LONGEST_FILE < length front))
IsReadRefusal front old new Memory = (new ≡ old) × (0 < length front)
IsReadRefusal front old new Write = ⊥

-- A refusal to read on, after a front of the bytes that a reader had left.
abbrev pub HasReadFront : Option (List ℕ) → Option (List ℕ) → ℕ → ℕ → RunIo → Type 0
HasReadFront from to old new e =
    (front : List ℕ) × Consumes from to front × IsReadRefusal front old new e

-- The refusal of bytes by `load`: they are no code file, or one that is not loaded, or memory ran
-- out.
-- Forbids: a refusal of something else, such as of a read.
abbrev pub IsLoadRefusal : List ℕ → MachineRefusal → Type 0
IsLoadRefusal bytes (CodeFile fault) = GivesUnlessMemory {X = Parts} (Err fault) (read_from bytes)
IsLoadRefusal bytes (Load fault) = (p : Parts) × InFile bytes p × IsRefusal p fault
IsLoadRefusal bytes _ = ⊥

-- The program of some code file.
abbrev pub IsLoadedProgram : Parts → Type 0
IsLoadedProgram program = (bytes : List ℕ) × InFile bytes program × IsLoadable program

-- The refusal of a code file: it can't be read, memory ran out, or `load` refuses its bytes.
abbrev pub IsFileRefusal : MachineRefusal → Type 0
IsFileRefusal e = (e ≡ File) ⊎ (e ≡ Run Memory) ⊎ ((bytes : List ℕ) × IsLoadRefusal bytes e)
