-- Instructions that lead only into their own part.
use Rattle.std.specs.Prelude.{◌≡◌, ℕ, ◌≤◌, IsTrue, Ok, Contains, take}
use Rattle.pcode_file.specs.declared.file.Proc.{Proc}
use Rattle.pcode_file.specs.Parts.{Parts, end_of}
use Rattle.pcode_ops.specs.declared.instr.Instr.{Instr}
use Rattle.pcode_ops.specs.declared.loading.Onward.{Onward}
use Rattle.pcode_ops.specs.Decoding.{instr_at}
use Rattle.pcode_ops.specs.Loading.{is_in, look, LeadsTo}

-- The facts of an offset in the part of procedure `q`: its whole instruction lies in the part, and
-- so does each offset that it leads to.
pub record StaysInPart (p : Parts) (i : ℕ) (q : Proc) : Type 0 where
  pub owner : Contains p.procs q
  pub within : IsTrue (is_in q i)
  pub instr : Instr
  pub next : ℕ
  pub found : instr_at (take (end_of q) p.segment) i ≡ Ok (instr, next)
  pub ends : next ≤ end_of q
  pub leads : Onward
  pub looked : look p i ≡ Ok leads
  pub stays : (k : ℕ) → LeadsTo p.segment leads k → IsTrue (is_in q k)
