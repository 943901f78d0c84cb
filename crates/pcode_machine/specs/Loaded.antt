-- What loading says of a program: which procedures it has, and that execution stays in them.
use Rattle.std.specs.Prelude.{◌≡◌, ℕ, Some, Ok, ℤ}
use Rattle.pcode_file.specs.declared.file.Proc.{Proc}
use Rattle.pcode_file.specs.InFile.{AreProcs}
use Rattle.pcode_file.specs.Parts.{Parts, procedure_of}
use Rattle.pcode_ops.specs.declared.instr.Instr.{Instr}
use Rattle.pcode_ops.specs.declared.instr.Instr.TheVariants.{Xjp}
use Rattle.pcode_ops.specs.Decoding.{instr_at}
use Rattle.pcode_ops.specs.Jumps.{StaysWith, IsCaseTable, case_of}
use Rattle.pcode_ops.specs.Loading.{owner, LeadsTo, HasNext, JumpsBy}
use Rattle.pcode_ops.specs.Reach.{Reach, MayStand}

-- The facts that loading says of a program, as the machine uses them.
-- The procedures are those of a file. An instruction at a reached offset may be there. Each ENTER,
-- each offset after an instruction that goes on there, and each target of a jump is reached, and
-- lies in the part of the procedure that it belongs to.
pub record IsLoaded (p : Parts) : Type 0 where
  pub procs : AreProcs p.segment p.procs
  pub stands : (i : ℕ) (q : Proc) (x : Instr) (j : ℕ) → Reach p i → owner p.procs i ≡ Ok q
      → instr_at p.segment i ≡ Ok (x, j) → MayStand p q x j
  pub enter : (n : ℕ) (q : Proc) → procedure_of p.procs n ≡ Some q
      → Reach p q.enter × (owner p.procs q.enter ≡ Ok q)
  pub next : (q : Proc) (i : Instr) (j : ℕ) → MayStand p q i j → HasNext i
      → Reach p j × (owner p.procs j ≡ Ok q)
  pub jump : (n : ℕ) (q : Proc) (i : Instr) (sb : ℤ) (j : ℕ) → JumpsBy i sb → MayStand p q i j
      → procedure_of p.procs n ≡ Some q → StaysWith p n q sb j
  pub case : (q : Proc) (low high sb : ℤ) (table j w : ℕ)
      → (m : MayStand p q (Xjp low high sb table) j)
      → LeadsTo p.segment m.leads (case_of p.segment low high table w)
  pub table : (i : ℕ) (q : Proc) (low high sb : ℤ) (table j : ℕ)
      → instr_at p.segment i ≡ Ok (Xjp low high sb table, j)
      → MayStand p q (Xjp low high sb table) j → IsCaseTable p.segment q low high table
