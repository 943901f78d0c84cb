-- The operands of an instruction in a code that loading checks.
use Rattle.std.proofs.Common.{◌≡◌, ℕ, ◌+◌, ◌%◌, true, List, length, Result, Ok, Err, IfOk, refl, sym, arith}
use Rattle.pcode_ops.specs.declared.instr.Instr.{Instr}
use Rattle.pcode_ops.specs.declared.instr.Instr.TheVariants.{Ixp, Xjp}
use Rattle.pcode_ops.specs.declared.fault.OpFault.{OpFault}
use Rattle.pcode_ops.specs.Opcodes.{Form, Alone, Numbered, WithLevels, WithSigned, Typed, Packed, Standard, CaseJump}
use Rattle.pcode_ops.specs.At.{FitsWord, HasElements, Cases, Stands, At}
use Rattle.pcode_ops.specs.Decoding.{instr_at}
use Rattle.pcode_ops.specs.Walks.{IsTableIn}
use Rattle.pcode_ops.proofs.Rows.{is_plain, makes_plain, row_makes_plain}
use Rattle.pcode_ops.proofs.DecodedIsAt.{decoded_at}

-- the elements of IXP fit a word, and what XJP needs is there
abbrev HasOperands : List ℕ → ℕ → Instr → ℕ → Type 0
HasOperands code i (Ixp elements width) j = FitsWord elements width
HasOperands code i (Xjp low high sb table) j = Cases code (i + 1 + (i + 1) % 2) low high sb table j
HasOperands code i _ j = Unit {0}

module _ (code : List ℕ) (i : ℕ) (instr : Instr) (j : ℕ) where
  -- the instruction that a form makes is plain
  made_operands : (made : Instr) → is_plain made ≡ true → instr ≡ made → HasOperands code i instr j
  made_operands made e same = grind arith

  -- the operands of what is in the code are what loading checks, by its form
  stands_operands : (op : ℕ) (form : Form) → ((a b : ℕ) → makes_plain form a b ≡ true) → Stands code i op form instr j
      → HasOperands code i instr j
  stands_operands op (Alone made) p h = made_operands made (p 0 0) h.1
  stands_operands op (Numbered count number make) p h = made_operands _ (p (h.0 + number) 0) h.3
  stands_operands op (WithLevels make) p h = made_operands _ (p h.0 h.1) h.5
  stands_operands op (WithSigned make) p h = made_operands (make h.0) (rw h.2.2 (p h.2.0 0)) h.3
  stands_operands op (Typed made) p h = made_operands made (p 0 0) h.2
  stands_operands op Packed p h = rw h.6 h.5
  stands_operands op Standard p h = made_operands _ refl h.3
  stands_operands op CaseJump p h = rw h.6 h.5
  stands_operands op other p h = made_operands _ (p h.0 0) h.3

  -- the operands of what is in the code are what loading checks
  pub operands_are : At code i instr j → HasOperands code i instr j
  operands_are at =
      stands_operands at.opcode at.form (row_makes_plain at.row.0 at.opcode at.form at.row.1) at.stands

-- ---- what follows of what is decoded

-- the packed elements of what is decoded fit a word, and the table of a case jump lies in the code
pub operands_fit : (code : List ℕ) (i : ℕ) (instr : Instr) (j : ℕ) → instr_at code i ≡ Ok (instr, j)
    → HasElements instr × IsTableIn (length code) instr
operands_fit code i (Ixp elements width) j e = (operands_are code i (Ixp elements width) j (decoded_at code i _ j e), tt)
operands_fit code i (Xjp low high sb table) j e = grind (arith, operands_are code i (Xjp low high sb table) j (decoded_at code i _ j e))
operands_fit code i _ j e = (tt, tt)

-- the same of an answer
pub table_found : (code : List ℕ) (i : ℕ) (r : Result (Instr × ℕ) OpFault) → r ≡ instr_at code i
    → IfOk r (λ found. IsTableIn (length code) found.0)
table_found code i (Ok found) e = (operands_fit code i found.0 found.1 (sym e)).1
table_found code i (Err f) e = tt
