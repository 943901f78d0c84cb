-- The table of instructions: its rows are apart, so an opcode's row is the one that has it.
use Rattle.std.proofs.Common.{◌≡◌, ℕ, zero, suc, ◌+◌, ◌&&◌, ◌||◌, Bool, true, false, leb, List, [], ◌∷◌, map, Some, slice_get, refl, arith}
use Rattle.std.proofs.lemmas.Bool.{and_parts, cond_both}
use Rattle.std.proofs.lemmas.Bool.Decides.{nat_tests}
use Rattle.pcode_ops.specs.declared.instr.Instr.{Instr}
use Rattle.pcode_ops.specs.declared.instr.Instr.TheVariants.{Ixp, Xjp}
use Rattle.std.specs.Int.{w8, cast_signed}
use Rattle.pcode_ops.specs.Opcodes.{Form, Alone, Numbered, WithByte, WithBig, WithWord, WithLevels, WithSigned, Typed, opcodes, has_opcode, row_of}

-- ---- rows that have no opcode in common

-- how many opcodes a form has
abbrev width_of : Form → ℕ
width_of (Numbered count number make) = count
width_of _ = 1

-- the test that two rows have no opcode in common
abbrev are_two : ℕ × Form → ℕ × Form → Bool
are_two a b = leb (a.0 + width_of a.1) b.0 || leb (b.0 + width_of b.1) a.0

-- the test that a row has no opcode in common with any of some rows
abbrev is_clear : ℕ × Form → List (ℕ × Form) → Bool
is_clear row [] = true
is_clear row (r ∷ rs) = are_two row r && is_clear row rs

-- the test that no two rows have an opcode in common
abbrev are_apart : List (ℕ × Form) → Bool
are_apart [] = true
are_apart (r ∷ rs) = is_clear r rs && are_apart rs

-- a row has no opcode of the rows that it is clear of
has_no_other : (op : ℕ) (row : ℕ × Form) (rows : List (ℕ × Form)) (k : ℕ) (other : ℕ × Form) → is_clear row rows ≡ true
    → slice_get rows k ≡ Some other → has_opcode op row.0 row.1 ≡ true → has_opcode op other.0 other.1 ≡ true → ⊥
has_no_other op row [] k other e at f g = absurd cc
has_no_other op row (r ∷ rs) zero other e at f g = grind (arith, nat_tests)
has_no_other op row (r ∷ rs) (suc k) other e at f g = has_no_other op row rs k other (and_parts _ _ e).1 at f g

-- the row that has an opcode is the first that has it
row_first : (op : ℕ) (rows : List (ℕ × Form)) (k : ℕ) (row : ℕ × Form) → are_apart rows ≡ true
    → slice_get rows k ≡ Some row → has_opcode op row.0 row.1 ≡ true → row_of op rows ≡ Some row
row_first op [] k row e at c = absurd cc
row_first op (r ∷ rs) zero row e at c = cc
row_first op (r ∷ rs) (suc k) row e at c =
    let both = and_parts _ _ e in grind (arith, has_no_other op r rs k row both.0 at, row_first op rs k row both.1 at c)

-- the row of the table that has an opcode is the row of the opcode
pub row_is : (op k : ℕ) (row : ℕ × Form) → slice_get opcodes k ≡ Some row → has_opcode op row.0 row.1 ≡ true → row_of op opcodes ≡ Some row
row_is op k row at c = row_first op opcodes k row refl at c

-- the row that is found is one of the rows, and has the opcode
pub row_found : (op : ℕ) (rows : List (ℕ × Form)) (row : ℕ × Form) → row_of op rows ≡ Some row
    → (k : ℕ) × (slice_get rows k ≡ Some row) × (has_opcode op row.0 row.1 ≡ true)
row_found op [] row e = absurd cc
row_found op (r ∷ rs) row e =
    cond_both (has_opcode op r.0 r.1) (Some r) (row_of op rs)
    (λ o. o ≡ Some row → (k : ℕ) × (slice_get (r ∷ rs) k ≡ Some row) × (has_opcode op row.0 row.1 ≡ true))
    (λ t h. (let same : r ≡ row = cc in (0, h, rw same at t)))
    (λ _ h. (let found = row_found op rs row h in (suc found.0, found.1, found.2))) e

-- ---- what an instruction's operands have to be

-- loading looks at no operand of the instruction before the instruction is known
abbrev pub is_plain : Instr → Bool
is_plain (Ixp elements width) = false
is_plain (Xjp low high sb table) = false
is_plain _ = true

-- whether the instruction that a form makes of two operands is one of these
abbrev pub makes_plain : Form → ℕ → ℕ → Bool
makes_plain (Alone made) a b = is_plain made
makes_plain (Numbered count number make) a b = is_plain (make a)
makes_plain (WithByte make) a b = is_plain (make a)
makes_plain (WithBig make) a b = is_plain (make a)
makes_plain (WithWord make) a b = is_plain (make a)
makes_plain (WithLevels make) a b = is_plain (make a b)
makes_plain (WithSigned make) a b = is_plain (make (cast_signed w8 a))
makes_plain (Typed made) a b = is_plain made
makes_plain _ a b = true

-- two functions that agree on a list agree on an element of it
one_of : {A B : Type 0} (f g : A → B) (xs : List A) (k : ℕ) (x : A) → map f xs ≡ map g xs → slice_get xs k ≡ Some x → f x ≡ g x
one_of f g [] k x e at = absurd cc
one_of f g (y ∷ ys) zero x e at = cc
one_of f g (y ∷ ys) (suc k) x e at = one_of f g ys k x (cc) at

-- the instructions that a row of the table makes are plain
pub row_makes_plain : (k first : ℕ) (form : Form) → slice_get opcodes k ≡ Some (first, form) → (a b : ℕ) → makes_plain form a b ≡ true
row_makes_plain k first form at a b = one_of (λ row. makes_plain row.1 a b) (λ row. true) opcodes k (first, form) refl at
