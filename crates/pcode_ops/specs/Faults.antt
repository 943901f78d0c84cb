-- The first fault of an offset as a relation: which check fails where each earlier one passes. The
-- cases are the checks of docs/FORMATS.md, in their order.
use Rattle.std.specs.Prelude.{◌≡◌, ◌≢◌, ℕ, ◌+◌, ◌*◌, ◌%◌, ◌<◌, ◌≤◌, ◌⊎◌, List, length, take, Some, None, ℤ, ◌≤ℤ◌, ◌<ℤ◌}
use Rattle.pcode_file.specs.declared.file.Proc.{Proc}
use Rattle.pcode_file.specs.Parts.{Parts, procedure_of, end_of}
use Rattle.pcode_ops.specs.declared.instr.Instr.{Instr}
use Rattle.pcode_ops.specs.declared.instr.Instr.TheVariants.{Lod, Str, Lda, Clp, Cgp, Cip, Rnp, Rbp}
use Rattle.pcode_ops.specs.declared.instr.StandardProcedure as standard
use Rattle.pcode_ops.specs.declared.fault.OpFault.{OpFault}
use Rattle.pcode_ops.specs.declared.fault.OpFault.TheVariants as fault
use Rattle.pcode_ops.specs.Opcodes.{Form, Alone, Numbered, WithByte, WithBig, WithWord, WithLevels, WithSigned, Typed, Packed, Standard, CaseJump, IsTableRow, opcode_refusal}
use Rattle.pcode_ops.specs.At.{At, HasByte, SignedWord, FitsWord, cases, standard_number}
use Rattle.pcode_ops.specs.Loading.{Flow, On, Jumps, Branches, Switches, Ends, flow_of}
use Rattle.pcode_ops.specs.Rules.{MayHold, MayFlow, LiesIn, PointsTo, JumpsTo}

-- ---- The procedure.

-- The procedure `q` of a file, in whose part offset `i` lies.
pub record Owns (procs : List Proc) (i : ℕ) (q : Proc) : Type 0 where
  pub number : ℕ
  pub named : procedure_of procs number ≡ Some q
  pub within : LiesIn q i

-- The claim that offset `i` lies in no procedure's part.
abbrev pub IsOutside : List Proc → ℕ → Type 0
IsOutside procs i = (n : ℕ) (q : Proc) → procedure_of procs n ≡ Some q → ¬ (LiesIn q i)

-- The code that the checks of an offset of procedure `q` see: the segment up to the part's end.
abbrev pub part_code : Parts → Proc → List ℕ
part_code p q = take (end_of q) p.segment

-- ---- Checks 1 to 6: the bytes.

-- The opcodes of a row of the table that begins with `first`.
abbrev pub IsOpcodeOf : ℕ → ℕ → Form → Type 0
IsOpcodeOf op first (Numbered count number make) = (n : ℕ) × (n < count) × (op ≡ first + n)
IsOpcodeOf op first _ = op ≡ first

-- The claim that no byte is at offset `i`, or the byte there begins an operand B of two bytes and
-- no byte follows it.
abbrev pub LacksBig : List ℕ → ℕ → Type 0
LacksBig code i =
    (length code ≤ i) ⊎ ((b : ℕ) × HasByte code i b × (128 ≤ b) × (length code ≤ i + 1))

-- The refusal of a standard procedure that is not one of the five.
abbrev pub LacksStandard : ℕ → OpFault → Type 0
LacksStandard n f =
    ((f ≡ fault.Heap) × ((n ≡ 1) ⊎ (n ≡ 32) ⊎ (n ≡ 33)))
    ⊎ ((f ≡ fault.StandardProcedure n) × (n ≢ 1) × (n ≢ 32) × (n ≢ 33)
    × ((p : standard.StandardProcedure) → standard_number p ≢ n))

-- The fault of a case jump with its W1 at `i`: W1, W2 or the UJP is cut off; the bounds are in the
-- wrong order, or no UJP is there; the table is cut off.
abbrev pub LacksCases : List ℕ → ℕ → OpFault → Type 0
LacksCases code i f =
    ((f ≡ fault.Cut) × (length code < i + 6))
    ⊎ ((low : ℤ) × (high : ℤ) × SignedWord code i low (i + 2) × SignedWord code (i + 2) high (i + 4)
    × (i + 6 ≤ length code)
    × (((f ≡ fault.CaseTable) × ((high <ℤ low) ⊎ ¬ (HasByte code (i + 4) 185)))
    ⊎ ((f ≡ fault.Cut) × (low ≤ℤ high) × HasByte code (i + 4) 185
    × (length code < i + 6 + 2 * cases low high))))

-- The fault of what follows an opcode at offset `i`, by its form.
abbrev pub LacksOperands : List ℕ → ℕ → ℕ → Form → OpFault → Type 0
LacksOperands code i op (Alone made) f = ⊥
LacksOperands code i op (Numbered count number make) f = ⊥
LacksOperands code i op (WithByte make) f = (f ≡ fault.Cut) × (length code ≤ i + 1)
LacksOperands code i op (WithBig make) f = (f ≡ fault.Cut) × LacksBig code (i + 1)
LacksOperands code i op (WithWord make) f = (f ≡ fault.Cut) × (length code ≤ i + 2)
LacksOperands code i op (WithLevels make) f =
    (f ≡ fault.Cut) × ((length code ≤ i + 1) ⊎ LacksBig code (i + 2))
LacksOperands code i op (WithSigned make) f = (f ≡ fault.Cut) × (length code ≤ i + 1)
LacksOperands code i op (Typed made) f =
    ((f ≡ fault.Cut) × (length code ≤ i + 1))
    ⊎ ((f ≡ fault.Unsupported op) × (b : ℕ) × HasByte code (i + 1) b × (b ≢ 6))
LacksOperands code i op Packed f =
    ((f ≡ fault.Cut) × (length code ≤ i + 2))
    ⊎ ((f ≡ fault.Packing) × (elements : ℕ) × (width : ℕ) × HasByte code (i + 1) elements
    × HasByte code (i + 2) width × ¬ (FitsWord elements width))
LacksOperands code i op Standard f =
    ((f ≡ fault.Cut) × (length code ≤ i + 1))
    ⊎ ((n : ℕ) × HasByte code (i + 1) n × LacksStandard n f)
LacksOperands code i op CaseJump f = LacksCases code (i + 1 + (i + 1) % 2) f

-- The fault of the bytes at offset `i` of a code, where no instruction stands.
-- No byte is there; its opcode has no row of the table; or what follows is not what the row's form
-- says.
pub data IsUnread (code : List ℕ) (i : ℕ) (f : OpFault) : Type 0 where
  past : length code ≤ i → f ≡ fault.Cut → IsUnread code i f
  refused : (op : ℕ) → HasByte code i op
      → ((first : ℕ) (form : Form) → IsTableRow first form → ¬ (IsOpcodeOf op first form))
      → f ≡ opcode_refusal op → IsUnread code i f
  lacking : (op first : ℕ) (form : Form) → HasByte code i op → IsTableRow first form
      → IsOpcodeOf op first form → LacksOperands code i op form f → IsUnread code i f

-- ---- Checks 7 to 10: calls, static links and returns.

-- The fault of a call of procedure `n`, which has to be at a level with `P`.
abbrev pub IsBadCall : List Proc → ℕ → (ℕ → Type 0) → OpFault → Type 0
IsBadCall procs n P f =
    ((f ≡ fault.NoProcedure) × (procedure_of procs n ≡ None))
    ⊎ ((f ≡ fault.CallLevel) × (callee : Proc) × (procedure_of procs n ≡ Some callee)
    × ¬ (P callee.level))

-- The fault of an instruction that procedure `q` may not hold.
abbrev pub MayNotHold : List Proc → Proc → Instr → OpFault → Type 0
MayNotHold procs q (Clp n) f = IsBadCall procs n (λ level. level ≡ q.level + 1) f
MayNotHold procs q (Cgp n) f = IsBadCall procs n (λ level. level ≡ 1) f
MayNotHold procs q (Cip n) f = IsBadCall procs n (λ level. (1 ≤ level) × (level ≤ q.level + 1)) f
MayNotHold procs q (Lod levels n) f = (f ≡ fault.LinkDepth) × (q.level < levels)
MayNotHold procs q (Str levels n) f = (f ≡ fault.LinkDepth) × (q.level < levels)
MayNotHold procs q (Lda levels n) f = (f ≡ fault.LinkDepth) × (q.level < levels)
MayNotHold procs q (Rnp n) f = (f ≡ fault.ReturnForm) × ((q.number ≡ 1) ⊎ (2 < n))
MayNotHold procs q (Rbp n) f = (f ≡ fault.ReturnForm) × (q.number ≢ 1)
MayNotHold procs q _ f = ⊥

-- ---- Checks 11 and 12: jumps, then the next offset.

-- The claim that a jump has no target in the part.
abbrev pub HasNoTarget : List ℕ → Proc → ℤ → ℕ → Type 0
HasNoTarget segment q sb j = (t : ℕ) → ¬ (JumpsTo segment q sb j t)

-- The fault of a flow of procedure `q` that ends at `j` and leads out of the part.
abbrev pub MayNotFlow : List ℕ → Proc → Flow → ℕ → OpFault → Type 0
MayNotFlow segment q On j f = (f ≡ fault.Cut) × ¬ (LiesIn q j)
MayNotFlow segment q (Jumps sb) j f = (f ≡ fault.JumpRange) × HasNoTarget segment q sb j
MayNotFlow segment q (Branches sb) j f =
    ((f ≡ fault.JumpRange) × HasNoTarget segment q sb j)
    ⊎ ((f ≡ fault.Cut) × ((t : ℕ) × JumpsTo segment q sb j t) × ¬ (LiesIn q j))
MayNotFlow segment q (Switches low high table) j f =
    (f ≡ fault.JumpRange) × (k : ℕ) × (k < cases low high)
    × ((t : ℕ) → ¬ (PointsTo segment q (table + 2 * k) t))
MayNotFlow segment q Ends j f = ⊥

-- ---- All checks.

-- The facts of an offset without fault.
-- An instruction stands there in a procedure's part, the procedure may hold it, and it leads only
-- into that part.
pub record StandsAt (p : Parts) (i : ℕ) (q : Proc) (instr : Instr) (j : ℕ) : Type 0 where
  pub owner : Owns p.procs i q
  pub at : At (part_code p q) i instr j
  pub held : MayHold p.procs q instr
  pub flows : MayFlow p.segment q (flow_of instr) j

-- The first fault of offset `i`.
pub data HasFirstFault (p : Parts) (i : ℕ) (f : OpFault) : Type 0 where
  outside : IsOutside p.procs i → f ≡ fault.Cut → HasFirstFault p i f
  unread : (q : Proc) → Owns p.procs i q → IsUnread (part_code p q) i f → HasFirstFault p i f
  not_held : (q : Proc) (instr : Instr) (j : ℕ) → Owns p.procs i q → At (part_code p q) i instr j
      → MayNotHold p.procs q instr f → HasFirstFault p i f
  leads_out : (q : Proc) (instr : Instr) (j : ℕ) → Owns p.procs i q → At (part_code p q) i instr j
      → MayHold p.procs q instr → MayNotFlow p.segment q (flow_of instr) j f
      → HasFirstFault p i f
