-- The targets of jumps that loading has let pass.
use Rattle.std.specs.Prelude.{◌≡◌, ℕ, ◌+◌, ◌-◌, ◌*◌, ◌≤◌, ◌&&◌, true, if◌then◌else◌, List, length, Option, Some, Ok, IsSome, ℤ, ◌-ℤ◌, int_le, unsigned_abs}
use Rattle.std.specs.Int.{w16, cast_signed}
use Rattle.std.specs.Option.{option_and_then}
use Rattle.std.specs.Result.{result_ok}
use Rattle.pcode_file.specs.declared.file.Proc.{Proc}
use Rattle.pcode_file.specs.Parts.{Parts, word, procedure_of}
use Rattle.pcode_ops.specs.At.{cases}
use Rattle.pcode_ops.specs.Loading.{owner, jump_to, entries_in}
use Rattle.pcode_ops.specs.Reach.{Reach}

-- The target of a jump of procedure `n` by `sb` that ends at `next`.
-- Forbids: a procedure that does not exist, and a jump out of its part.
-- Source: Manual, jump tables.
abbrev pub jump_in : Parts → ℕ → ℤ → ℕ → Option ℕ
jump_in p n sb next =
    option_and_then (λ q. result_ok (jump_to p.segment q sb next)) (procedure_of p.procs n)

-- The facts of a jump of procedure `n`: it leads to an offset that is reached and owned by `q`.
pub record StaysWith (p : Parts) (n : ℕ) (q : Proc) (sb : ℤ) (next : ℕ) : Type 0 where
  pub leads : IsSome (jump_in p n sb next)
  pub stays : (t : ℕ) → jump_in p n sb next ≡ Some t → Reach p t × (owner p.procs t ≡ Ok q)

-- The place to which the self-relative pointer at `place` leads.
abbrev pub pointed_by : List ℕ → ℕ → ℕ
pointed_by segment place = place - word segment place

-- The target of a case jump from `low` to `high` on the word `w`.
-- It is that of the table's entry for `w` as a signed number, or the UJP before the table.
-- Source: Manual, case jumps.
abbrev pub case_of : List ℕ → ℤ → ℤ → ℕ → ℕ → ℕ
case_of segment low high table w =
    let index = cast_signed w16 w in
    if int_le low index && int_le index high
    then pointed_by segment (table + 2 * unsigned_abs (index -ℤ low)) else table - 2

-- The facts of a case jump's table: it lies in the segment after its UJP, and each entry leads into
-- the part of procedure `q`.
pub record IsCaseTable (segment : List ℕ) (q : Proc) (low high : ℤ) (table : ℕ) : Type 0 where
  pub room : 2 ≤ table
  pub ends : table + 2 * cases low high ≤ length segment
  pub entries : entries_in segment q table (cases low high) ≡ true
