-- The parts of a code file, and numbers in its bytes.
use Rattle.std.specs.Prelude.{ℕ, zero, suc, ◌+◌, ◌*◌, ◌-◌, List, [], ◌∷◌, Option, None, slice_get, slice_index}
use Rattle.pcode_file.specs.declared.file.Proc.{Proc}

-- The parts of a code file: its segment, with name and number, and its procedures in order.
-- Source: Manual, code files.
pub record Parts : Type 0 where
  pub name : List ℕ
  pub segment : List ℕ
  pub number : ℕ
  pub procs : List Proc

-- The word at a place, its low byte first.
-- Source: Manual, code files.
abbrev pub word : List ℕ → ℕ → ℕ
word bytes place = slice_index bytes place + 256 * slice_index bytes (place + 1)

-- The procedure of number `i`, from 1 on, if there is one.
abbrev pub procedure_of : List Proc → ℕ → Option Proc
procedure_of procs zero = None
procedure_of procs (suc k) = slice_get procs k

-- The place at which a procedure's part ends: at its lowest attribute word.
-- Source: Manual, code files.
abbrev pub end_of : Proc → ℕ
end_of q = q.jtab - 8

-- The name of entry `k` of block 0.
-- Source: Manual, code files.
abbrev pub name_at : List ℕ → ℕ → List ℕ
name_at bytes k =
    let at = 64 + 8 * k in
    slice_index bytes at ∷ slice_index bytes (at + 1) ∷ slice_index bytes (at + 2)
    ∷ slice_index bytes (at + 3)
    ∷ slice_index bytes (at + 4) ∷ slice_index bytes (at + 5) ∷ slice_index bytes (at + 6)
    ∷ slice_index bytes (at + 7) ∷ []
