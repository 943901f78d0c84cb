-- The reached offsets of a code file, and the files that can be loaded.
use Rattle.std.specs.Prelude.{◌≡◌, ℕ, ◌≤◌, ◌⊎◌, List, length, Some, Ok, slice_get}
use Rattle.pcode_file.specs.declared.file.Proc.{Proc}
use Rattle.pcode_file.specs.Parts.{Parts}
use Rattle.pcode_ops.specs.declared.fault.OpFault.{OpFault}
use Rattle.pcode_ops.specs.declared.fault.OpFault.TheVariants.{Memory}
use Rattle.pcode_ops.specs.declared.fault.LoadFault.{LoadFault}
use Rattle.pcode_ops.specs.declared.instr.Instr.{Instr}
use Rattle.pcode_ops.specs.declared.loading.Onward.{Onward}
use Rattle.pcode_ops.specs.Loading.{owner, legal, onward, look, LeadsTo, IsFaulty, IsFine}

-- The least set of offsets with each ENTER and EXIT, and with where a member without fault leads.
-- Source: Manual, flow of control.
pub data Reach (p : Parts) : ℕ → Type 0 where
  entered : (k : ℕ) (q : Proc) → slice_get p.procs k ≡ Some q → Reach p q.enter
  exited : (k : ℕ) (q : Proc) → slice_get p.procs k ≡ Some q → Reach p q.exit
  followed : (i j : ℕ) (o : Onward) → Reach p i → look p i ≡ Ok o → LeadsTo p.segment o j
      → Reach p j

-- The facts of an instruction that ends at `next` and may be in procedure `q`.
-- Each offset that it leads to is reached and owned by `q`.
pub record MayStand (p : Parts) (q : Proc) (instr : Instr) (next : ℕ) : Type 0 where
  pub legal : legal p.procs q instr ≡ Ok tt
  pub leads : Onward
  pub found : onward p.segment q instr next ≡ Ok leads
  pub reached : (k : ℕ) → LeadsTo p.segment leads k → Reach p k × (owner p.procs k ≡ Ok q)

-- The files without a faulty reached offset.
abbrev pub IsLoadable : Parts → Type 0
IsLoadable p = (i : ℕ) → Reach p i → IsFine p i

-- The least faulty reached offset, with the first of its faults.
pub record IsLeastFault (p : Parts) (f : LoadFault) : Type 0 where
  pub reached : Reach p f.at
  pub faulty : IsFaulty p f.at f.fault
  pub least : (i : ℕ) (g : OpFault) → Reach p i → IsFaulty p i g → f.at ≤ i

-- The reason for which a file is refused: lack of memory, at offset 0, or its least faulty reached
-- offset.
abbrev pub IsRefusal : Parts → LoadFault → Type 0
IsRefusal p f = (f ≡ record { at = 0; fault = Memory }) ⊎ IsLeastFault p f

-- The list of the numbers with `P`, each of them once.
pub record Lists (P : ℕ → Type 0) (xs : List ℕ) : Type 0 where
  pub only : (k i : ℕ) → slice_get xs k ≡ Some i → P i
  pub all : (i : ℕ) → P i → (k : ℕ) × (slice_get xs k ≡ Some i)
  pub distinct : (j k i : ℕ) → slice_get xs j ≡ Some i → slice_get xs k ≡ Some i → j ≡ k

-- The number of numbers with `P`.
abbrev pub HasSize : (ℕ → Type 0) → ℕ → Type 0
HasSize P n = (xs : List ℕ) × Lists P xs × (length xs ≡ n)
