-- Instructions in the bytes of a code, as a relation: one case for each form.
use Rattle.std.specs.Prelude.{◌≡◌, ℕ, ◌+◌, ◌*◌, ◌%◌, ◌<◌, ◌≤◌, ◌⊎◌, List, length, Some, slice_get, ℤ, pos, ◌+ℤ◌, ◌-ℤ◌, ◌≤ℤ◌, int_lt, unsigned_abs, if◌then◌else◌}
use Rattle.std.specs.Int.{w8, w16, cast_signed}
use Rattle.pcode_ops.specs.declared.instr.Instr.{Instr}
use Rattle.pcode_ops.specs.declared.instr.Instr.TheVariants.{Ixp, Xjp, Csp}
use Rattle.pcode_ops.specs.declared.instr.StandardProcedure as standard
use Rattle.pcode_ops.specs.declared.instr.StandardProcedure.TheVariants.{IoCheck, UnitRead, UnitWrite, IoResult, Halt}
use Rattle.pcode_ops.specs.Opcodes.{Form, Alone, Numbered, WithByte, WithBig, WithWord, WithLevels, WithSigned, Typed, Packed, Standard, CaseJump, IsTableRow}

-- ---- Operands, from offset i up to j.

-- The byte at offset `i`.
abbrev pub HasByte : List ℕ → ℕ → ℕ → Type 0
HasByte code i b = slice_get code i ≡ Some b

-- The operand UB or DB: one byte.
-- Source: Manual, p-machine instructions.
abbrev pub Byte : List ℕ → ℕ → ℕ → ℕ → Type 0
Byte code i n j = HasByte code i n × (j ≡ i + 1)

-- The operand SB: one byte, signed.
-- Source: Manual, p-machine instructions.
abbrev pub SignedByte : List ℕ → ℕ → ℤ → ℕ → Type 0
SignedByte code i sb j = (b : ℕ) × HasByte code i b × (sb ≡ cast_signed w8 b) × (j ≡ i + 1)

-- The operand W: two bytes, the low one first.
-- Source: Manual, p-machine instructions.
abbrev pub Word : List ℕ → ℕ → ℕ → ℕ → Type 0
Word code i n j =
    (low : ℕ) × (high : ℕ) × HasByte code i low × HasByte code (i + 1) high
    × (n ≡ low + 256 * high) × (j ≡ i + 2)

-- A word, signed.
abbrev pub SignedWord : List ℕ → ℕ → ℤ → ℕ → Type 0
SignedWord code i w j = (n : ℕ) × Word code i n j × (w ≡ cast_signed w16 n)

-- The operand B: one byte below 128, or two bytes, the first with 128 added.
-- Source: Manual, p-machine instructions.
abbrev pub Big : List ℕ → ℕ → ℕ → ℕ → Type 0
Big code i n j =
    (HasByte code i n × (n < 128) × (j ≡ i + 1))
    ⊎ ((high : ℕ) × (low : ℕ) × HasByte code i (high + 128) × HasByte code (i + 1) low
    × (n ≡ high * 256 + low) × (j ≡ i + 2))

-- The number of a standard procedure.
-- Source: Manual, p-machine instructions.
abbrev pub standard_number : standard.StandardProcedure → ℕ
standard_number IoCheck = 0
standard_number UnitRead = 5
standard_number UnitWrite = 6
standard_number IoResult = 34
standard_number Halt = 39

-- The numbers of elements and of bits of each that fit a word.
-- Forbids: no element, an element of no bit, and more than 16 bits together.
abbrev pub FitsWord : ℕ → ℕ → Type 0
FitsWord elements width = (1 ≤ elements) × (1 ≤ width) × (elements * width ≤ 16)

-- The claim that the packed elements of an instruction fit a word.
-- Allows: an instruction other than IXP.
abbrev pub HasElements : Instr → Type 0
HasElements (Ixp elements width) = FitsWord elements width
HasElements _ = Unit {0}

-- The number of entries of a case table from `low` to `high`.
-- Source: Manual, p-machine instructions.
abbrev pub cases : ℤ → ℤ → ℕ
cases low high = if int_lt high low then 0 else unsigned_abs (high -ℤ low +ℤ pos 1)

-- The operands of XJP: W1 and W2, then a UJP, and the table after it.
-- Source: Manual, p-machine instructions.
abbrev pub Cases : List ℕ → ℕ → ℤ → ℤ → ℤ → ℕ → ℕ → Type 0
Cases code i low high sb table j =
    SignedWord code i low (i + 2) × SignedWord code (i + 2) high (i + 4) × (low ≤ℤ high)
    × HasByte code (i + 4) 185 × SignedByte code (i + 4 + 1) sb table
    × (j ≡ table + 2 * cases low high) × (j ≤ length code)

-- ---- Instructions: the opcode at offset i, and what follows it in its form, up to j.

-- The instruction that an opcode of this form at offset `i` and its operands up to `j` make.
-- Source: Manual, p-machine instructions.
abbrev pub Stands : List ℕ → ℕ → ℕ → Form → Instr → ℕ → Type 0
Stands code i opcode (Alone made) instr j = HasByte code i opcode × (instr ≡ made) × (j ≡ i + 1)
Stands code i opcode (Numbered count number make) instr j =
    (n : ℕ) × (n < count) × HasByte code i (opcode + n) × (instr ≡ make (n + number)) × (j ≡ i + 1)
Stands code i opcode (WithByte make) instr j =
    (n : ℕ) × HasByte code i opcode × Byte code (i + 1) n j × (instr ≡ make n)
Stands code i opcode (WithBig make) instr j =
    (n : ℕ) × HasByte code i opcode × Big code (i + 1) n j × (instr ≡ make n)
Stands code i opcode (WithWord make) instr j =
    (n : ℕ) × HasByte code i opcode × Word code (i + 1) n j × (instr ≡ make n)
Stands code i opcode (WithLevels make) instr j =
    (levels : ℕ) × (n : ℕ) × HasByte code i opcode × HasByte code (i + 1) levels
    × Big code (i + 2) n j × (instr ≡ make levels n)
Stands code i opcode (WithSigned make) instr j =
    (sb : ℤ) × HasByte code i opcode × SignedByte code (i + 1) sb j × (instr ≡ make sb)
Stands code i opcode (Typed made) instr j =
    HasByte code i opcode × Byte code (i + 1) 6 j × (instr ≡ made)
Stands code i opcode Packed instr j =
    (elements : ℕ) × (width : ℕ) × HasByte code i opcode × HasByte code (i + 1) elements
    × Byte code (i + 2) width j × FitsWord elements width × (instr ≡ Ixp elements width)
Stands code i opcode Standard instr j =
    (p : standard.StandardProcedure) × HasByte code i opcode
    × Byte code (i + 1) (standard_number p) j
    × (instr ≡ Csp p)
Stands code i opcode CaseJump instr j =
    (low : ℤ) × (high : ℤ) × (sb : ℤ) × (table : ℕ) × HasByte code i opcode
    × Cases code (i + 1 + (i + 1) % 2) low high sb table j × (instr ≡ Xjp low high sb table)

-- The instruction in the code's bytes from offset `i` up to `j`.
-- Its opcode has a row of the table, and its operands follow in the row's form.
-- Source: Manual, p-machine instructions.
pub record At (code : List ℕ) (i : ℕ) (instr : Instr) (j : ℕ) : Type 0 where
  pub opcode : ℕ
  pub form : Form
  pub row : IsTableRow opcode form
  pub stands : Stands code i opcode form instr j
