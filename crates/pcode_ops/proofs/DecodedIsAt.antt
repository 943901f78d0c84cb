-- Decoding as a function and as a relation are one.
use Rattle.std.proofs.Common.{◌≡◌, ℕ, ◌+◌, ◌*◌, ◌%◌, ◌<◌, ◌≤◌, true, cond, ltb, eqb, length, List, Option, Some, None, Ok, Err, slice_index, refl, arith, ℤ}
use Rattle.std.proofs.lemmas.Bool.Decides.{nat_tests}
use Rattle.std.proofs.lemmas.Int.{ints}
use Rattle.std.proofs.lemmas.Option.{gets, slice_get-get_or}
use Rattle.std.specs.Int.{w8, cast_signed}
use Rattle.base.proofs.Steps.{bind_ok}
use Rattle.pcode_ops.specs.declared.instr.Instr.{Instr}
use Rattle.pcode_ops.specs.declared.instr.Instr.TheVariants.{Xjp}
use Rattle.pcode_ops.specs.declared.fault.OpFault.TheVariants.{Cut, CaseTable}
use Rattle.pcode_ops.specs.Opcodes.{Form, CaseJump, has_opcode, row_of, opcodes}
use Rattle.pcode_ops.specs.At.{HasByte, SignedByte, SignedWord, Cases, cases, Stands, At}
use Rattle.pcode_ops.specs.Decoding.{byte_at, signed_word, case_jump_at, read_at, by_row, instr_of, instr_at}
use Rattle.pcode_ops.proofs.Rows.{row_found, row_is}

-- ---- case jumps

-- a case jump in the code is what is read
case_jump_found : (code : List ℕ) (at : ℕ) (low high sb : ℤ) (table j : ℕ) → Cases code at low high sb table j
    → case_jump_at code at ≡ Ok (Xjp low high sb table, j)
case_jump_found code at low high sb table j h = grind (arith, nat_tests, gets, ints)

-- what the checks of a case jump say, which they make in their order
checked : (size at count jump : ℕ) (made found : Instr × ℕ)
    → cond (ltb size (at + 6)) (Err Cut) (cond (eqb count 0) (Err CaseTable) (cond (eqb jump 185)
    (cond (ltb size (at + 6 + 2 * count)) (Err Cut) (Ok made)) (Err CaseTable))) ≡ Ok found
    → (0 < count) × (jump ≡ 185) × (at + 6 + 2 * count ≤ size) × (found.0 ≡ made.0) × (found.1 ≡ made.1)
checked size at count jump made found e = grind (arith, nat_tests)

-- the operands of a case jump are there, where the code is long enough
pub operands_there : (code : List ℕ) (at : ℕ) → at + 6 ≤ length code
    → SignedWord code at (signed_word code at) (at + 2) × SignedWord code (at + 2) (signed_word code (at + 2)) (at + 4)
    × HasByte code (at + 4) (slice_index code (at + 4))
    × SignedByte code (at + 4 + 1) (cast_signed w8 (slice_index code (at + 5))) (at + 6)
operands_there code at long = grind (arith, slice_get-get_or)

-- a case jump that is read is in the code
case_jump_read : (code : List ℕ) (at : ℕ) (instr : Instr) (j : ℕ) → case_jump_at code at ≡ Ok (instr, j)
    → (low : ℤ) × (high : ℤ) × (sb : ℤ) × (table : ℕ) × Cases code at low high sb table j × (instr ≡ Xjp low high sb table)
case_jump_read code at instr j e =
    let low = signed_word code at in
    let high = signed_word code (at + 2) in
    let is = checked (length code) at (cases low high) (slice_index code (at + 4)) _ (instr, j) e in
    let there = operands_there code at (omega (arith, is.2)) in
    let jump : HasByte code (at + 4) 185 = rw is.1 at there.2 in
    (_, _, _, _, (there.0, there.1, grind (arith, ints, is.0), jump, there.3, is.4, omega (arith, is.2, is.4)), is.3)

-- ---- from the function to the relation

-- what is read after an opcode is there, in the form of the opcode's row
read_stands : (code : List ℕ) (i op first : ℕ) (form : Form) (instr : Instr) (j : ℕ) → HasByte code i op
    → has_opcode op first form ≡ true → read_at code i op first form ≡ Ok (instr, j) → Stands code i first form instr j
read_stands code i op first CaseJump instr j h t e = grind (arith, nat_tests, case_jump_read code (i + 1 + (i + 1) % 2) instr j e)
read_stands code i op first other instr j h t e = grind (arith, nat_tests)

-- what is read by the row of an opcode is in the code
row_at : (code : List ℕ) (i op : ℕ) (instr : Instr) (j : ℕ) (o : Option (ℕ × Form)) → HasByte code i op → row_of op opcodes ≡ o
    → by_row code i op o ≡ Ok (instr, j) → At code i instr j
row_at code i op instr j None h r e = absurd cc
row_at code i op instr j (Some row) h r e =
    let is = row_found op opcodes row r in
    record { opcode = row.0; form = row.1; row = (is.0, is.1); stands = read_stands code i op row.0 row.1 instr j h is.2 e }

-- what is decoded is in the code
pub decoded_at : (code : List ℕ) (i : ℕ) (instr : Instr) (j : ℕ) → instr_at code i ≡ Ok (instr, j) → At code i instr j
unfolding instr_of
decoded_at code i instr j e =
    let b = bind_ok (byte_at code i) (instr_of code i) (instr, j) e in
    row_at code i b.0 instr j (row_of b.0 opcodes) (grind arith) refl b.2

-- ---- from the relation to the function

-- the byte at i is one of the row's opcodes, and what follows it is read
stands_read : (code : List ℕ) (i first : ℕ) (form : Form) (instr : Instr) (j : ℕ) → Stands code i first form instr j
    → (op : ℕ) × HasByte code i op × (has_opcode op first form ≡ true) × (read_at code i op first form ≡ Ok (instr, j))
stands_read code i first CaseJump instr j h =
    grind (arith, nat_tests, case_jump_found code (i + 1 + (i + 1) % 2) h.0 h.1 h.2 h.3 j h.5)
stands_read code i first other instr j h = grind (arith, nat_tests)

-- an instruction in the code is decoded
pub at_decoded : (code : List ℕ) (i : ℕ) (instr : Instr) (j : ℕ) → At code i instr j → instr_at code i ≡ Ok (instr, j)
unfolding instr_of
at_decoded code i instr j h =
    let r = stands_read code i h.opcode h.form instr j h.stands in
    rw (r.1, row_is r.0 h.row.0 (h.opcode, h.form) h.row.1 r.2) r.3
