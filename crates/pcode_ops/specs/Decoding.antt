-- Decoding as a function: the instruction and the offset after it, or the first fault.
use Rattle.std.specs.Prelude.{ℕ, ◌+◌, ◌-◌, ◌*◌, ◌%◌, ◌≤◌, nat_lt, nat_le, ◌==◌, ◌&&◌, if◌then◌else◌, List, [], ◌∷◌, length, Option, Some, None, Result, Ok, Err, IfOk, slice_get, slice_index, ℤ}
use Rattle.std.specs.Int.{w8, w16, cast_signed}
use Rattle.base.specs.Steps.{◌>>=◌}
use Rattle.pcode_file.specs.Parts.{word}
use Rattle.pcode_ops.specs.declared.instr.Instr.{Instr}
use Rattle.pcode_ops.specs.declared.instr.Instr.TheVariants.{Ixp, Xjp, Csp}
use Rattle.pcode_ops.specs.declared.instr.StandardProcedure.TheVariants.{IoCheck, UnitRead, UnitWrite, IoResult, Halt}
use Rattle.pcode_ops.specs.declared.fault.OpFault.{OpFault}
use Rattle.pcode_ops.specs.declared.fault.OpFault.TheVariants as fault
use Rattle.pcode_ops.specs.declared.opcodes.Operands.{Operands}
use Rattle.pcode_ops.specs.declared.opcodes.Row.{Row}
use Rattle.pcode_ops.specs.declared.opcodes.Row.TheVariants as row
use Rattle.pcode_ops.specs.At.{cases}
use Rattle.pcode_ops.specs.Opcodes.{Form, Alone, Numbered, WithByte, WithBig, WithWord, WithLevels, WithSigned, Typed, Packed, Standard, CaseJump, opcodes, row_of, is_among, opcode_refusal}

-- The answers that end in the code: the offset after what was read is at most its length.
-- Allows: a fault.
abbrev pub EndsWithin : {A : Type 0} → List ℕ → Result (A × ℕ) OpFault → Type 0
EndsWithin code result = IfOk result (λ r. r.1 ≤ length code)

-- ---- Operands: the operand and the offset after it, or the first fault.

-- A byte, or the fault that it is cut off.
abbrev pub or_cut : Option ℕ → Result ℕ OpFault
or_cut None = Err fault.Cut
or_cut (Some b) = Ok b

-- The byte at offset `i`.
abbrev pub byte_at : List ℕ → ℕ → Result ℕ OpFault
byte_at code i = or_cut (slice_get code i)

-- The operand W at offset `i`.
-- Source: Manual, p-machine instructions.
abbrev pub word_at : List ℕ → ℕ → Result ℕ OpFault
word_at code i = byte_at code i >>= λ low. byte_at code (i + 1) >>= λ high. Ok (low + 256 * high)

-- The operand B at offset `i`, and the offset after it.
-- Source: Manual, p-machine instructions.
abbrev pub big_at : List ℕ → ℕ → Result (ℕ × ℕ) OpFault
big_at code i = byte_at code i >>= λ first.
    if nat_lt first 128 then Ok (first, i + 1)
    else byte_at code (i + 1) >>= λ second. Ok ((first - 128) * 256 + second, i + 2)

-- ---- Instructions.

-- The call of standard procedure `n`, which ends at `j`, or its refusal.
-- Source: Manual, p-machine instructions.
abbrev pub standard_of : ℕ → ℕ → Result (Instr × ℕ) OpFault
standard_of j n =
    if n == 0 then Ok (Csp IoCheck, j)
    else if n == 5 then Ok (Csp UnitRead, j)
    else if n == 6 then Ok (Csp UnitWrite, j)
    else if n == 34 then Ok (Csp IoResult, j)
    else if n == 39 then Ok (Csp Halt, j)
    else if is_among n (1 ∷ 32 ∷ 33 ∷ []) then Err fault.Heap
    else Err (fault.StandardProcedure n)

-- The instruction IXP, which ends at `j`, if its elements fit a word.
-- Source: Manual, p-machine instructions.
abbrev pub packed_of : ℕ → ℕ → ℕ → Result (Instr × ℕ) OpFault
packed_of j elements width =
    if nat_le 1 elements && nat_le 1 width && nat_le (elements * width) 16
    then Ok (Ixp elements width, j)
    else Err fault.Packing

-- The signed word at offset `i`.
abbrev pub signed_word : List ℕ → ℕ → ℤ
signed_word code i = cast_signed w16 (word code i)

-- The case jump whose W1 is at the even offset `i`.
-- Its checks are, in order: W1, W2 and the UJP are there; their form; the table is there.
-- Source: Manual, p-machine instructions. The order of the checks is this project's.
abbrev pub case_jump_at : List ℕ → ℕ → Result (Instr × ℕ) OpFault
case_jump_at code i =
    let low = signed_word code i in
    let high = signed_word code (i + 2) in
    if nat_lt (length code) (i + 6) then Err fault.Cut
    else if cases low high == 0 then Err fault.CaseTable
    else if slice_index code (i + 4) == 185 then
    (if nat_lt (length code) (i + 6 + 2 * cases low high) then Err fault.Cut
    else Ok (
      Xjp low high (cast_signed w8 (slice_index code (i + 5))) (i + 6),
      i + 6 + 2 * cases low high,
    ))
    else Err fault.CaseTable

-- The instruction of an opcode with its form, whose operands follow at `i + 1`, or the first fault.
abbrev pub read_at : List ℕ → ℕ → ℕ → ℕ → Form → Result (Instr × ℕ) OpFault
read_at code i op first (Alone made) = Ok (made, i + 1)
read_at code i op first (Numbered count number make) = Ok (make (op - first + number), i + 1)
read_at code i op first (WithByte make) = byte_at code (i + 1) >>= λ n. Ok (make n, i + 2)
read_at code i op first (WithBig make) = big_at code (i + 1) >>= λ n. Ok (make n.0, n.1)
read_at code i op first (WithWord make) = word_at code (i + 1) >>= λ n. Ok (make n, i + 3)
read_at code i op first (WithLevels make) =
    byte_at code (i + 1) >>= λ levels. big_at code (i + 2) >>= λ n. Ok (make levels n.0, n.1)
read_at code i op first (WithSigned make) =
    byte_at code (i + 1) >>= λ b. Ok (make (cast_signed w8 b), i + 2)
read_at code i op first (Typed made) =
    byte_at code (i + 1) >>= λ t. if t == 6 then Ok (made, i + 2) else Err (fault.Unsupported op)
read_at code i op first Packed =
    byte_at code (i + 1) >>= λ elements.
    byte_at code (i + 2) >>= λ width. packed_of (i + 3) elements width
read_at code i op first Standard = byte_at code (i + 1) >>= λ n. standard_of (i + 2) n
read_at code i op first CaseJump = case_jump_at code (i + 1 + (i + 1) % 2)

-- The instruction at offset `i` by the row of its opcode, or the refusal of an opcode without a
-- row.
abbrev pub by_row : List ℕ → ℕ → ℕ → Option (ℕ × Form) → Result (Instr × ℕ) OpFault
by_row code i op None = Err (opcode_refusal op)
by_row code i op (Some found) = read_at code i op found.0 found.1

-- The instruction of the opcode `op` at offset `i`, and the offset after it.
unfoldable pub instr_of : List ℕ → ℕ → ℕ → Result (Instr × ℕ) OpFault
instr_of code i op = by_row code i op (row_of op opcodes)

-- The instruction at offset `i`, and the offset after it, or the first check that fails.
-- Source: Manual, p-machine instructions. The order of the checks is this project's.
abbrev pub instr_at : List ℕ → ℕ → Result (Instr × ℕ) OpFault
instr_at code i = byte_at code i >>= instr_of code i

-- ---- How the code reads: all operands first, then the row.

-- An operand, or 0 if it is cut off.
abbrev pub or_zero : Result ℕ OpFault → ℕ
or_zero (Ok n) = n
or_zero (Err f) = 0

-- An operand without the offset after it, or 0 if it is cut off.
abbrev pub first_or_zero : Result (ℕ × ℕ) OpFault → ℕ
first_or_zero (Ok n) = n.0
first_or_zero (Err f) = 0

-- What follows the opcode at offset `i`, as each form reads it; 0 where it is cut off.
abbrev pub operands_at : List ℕ → ℕ → Operands
operands_at code i = record {
  byte = or_zero (byte_at code (i + 1));
  big = first_or_zero (big_at code (i + 1));
  word = or_zero (word_at code (i + 1));
  offset = first_or_zero (big_at code (i + 2));
}

-- The row of the code's table for a form, with its operands.
abbrev pub row_with : Operands → ℕ → ℕ → Form → Row
row_with o op first (Alone made) = row.Alone made
row_with o op first (Numbered count number make) = row.Alone (make (op - first + number))
row_with o op first (WithByte make) = row.Byte (make o.byte)
row_with o op first (WithBig make) = row.Big (make o.big)
row_with o op first (WithWord make) = row.Word (make o.word)
row_with o op first (WithLevels make) = row.Levels (make o.byte o.offset)
row_with o op first (WithSigned make) = row.Byte (make (cast_signed w8 o.byte))
row_with o op first (Typed made) = row.Typed made
row_with o op first Packed = row.Packed
row_with o op first Standard = row.Standard
row_with o op first CaseJump = row.CaseJump

-- The row of the code's table for an opcode, if it has one.
abbrev pub made_by : Operands → ℕ → Option (ℕ × Form) → Option Row
made_by o op None = None
made_by o op (Some found) = Some (row_with o op found.0 found.1)

-- The instruction of a row, if its operands are there and are what they have to be.
abbrev pub finished_at : List ℕ → ℕ → ℕ → Row → Result (Instr × ℕ) OpFault
finished_at code i op (row.Alone instr) = Ok (instr, i + 1)
finished_at code i op (row.Byte instr) = byte_at code (i + 1) >>= λ n. Ok (instr, i + 2)
finished_at code i op (row.Big instr) = big_at code (i + 1) >>= λ n. Ok (instr, n.1)
finished_at code i op (row.Word instr) = word_at code (i + 1) >>= λ n. Ok (instr, i + 3)
finished_at code i op (row.Levels instr) =
    byte_at code (i + 1) >>= λ levels. big_at code (i + 2) >>= λ n. Ok (instr, n.1)
finished_at code i op (row.Typed instr) =
    byte_at code (i + 1) >>= λ t. if t == 6 then Ok (instr, i + 2) else Err (fault.Unsupported op)
finished_at code i op row.Packed =
    byte_at code (i + 1) >>= λ elements.
    byte_at code (i + 2) >>= λ width. packed_of (i + 3) elements width
finished_at code i op row.Standard = byte_at code (i + 1) >>= λ n. standard_of (i + 2) n
finished_at code i op row.CaseJump = case_jump_at code (i + 1 + (i + 1) % 2)
