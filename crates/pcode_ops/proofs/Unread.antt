-- The first fault of bytes that are no instruction, as a function and as a relation.
use Rattle.std.proofs.Common.{cond, ltb, eqb, slice_index, ◌*◌, ◌<◌, ◌≡◌, ◌↔◌, ◌⊎◌, ℕ, ◌+◌, ◌%◌, ◌-◌, ◌≤◌, true, List, length, Option, Some, None, Ok, Err, inl, inr, refl, arith, ℤ, ◌≤ℤ◌, ◌<ℤ◌}
use Rattle.std.proofs.lemmas.Bool.{cases_lt}
use Rattle.std.proofs.lemmas.Bool.Decides.{nat_tests}
use Rattle.std.proofs.lemmas.Int.{ints}
use Rattle.std.proofs.lemmas.Option.{gets, slice_get-get_or, slice_get_past, slice_get_cases}
use Rattle.base.proofs.Lists.{get_none}
use Rattle.pcode_ops.specs.declared.instr.Instr.{Instr}
use Rattle.pcode_ops.specs.declared.instr.StandardProcedure.TheVariants.{IoCheck, UnitRead, UnitWrite, IoResult, Halt}
use Rattle.pcode_ops.specs.declared.fault.OpFault.{OpFault}
use Rattle.pcode_ops.specs.declared.fault.OpFault.TheVariants as fault
use Rattle.pcode_ops.specs.Opcodes.{Form, Alone, Numbered, WithByte, WithBig, WithWord, WithLevels, WithSigned, Typed, Packed, Standard, CaseJump, opcodes, has_opcode, row_of, IsTableRow}
use Rattle.pcode_ops.specs.At.{HasByte, SignedWord, cases}
use Rattle.pcode_ops.specs.Decoding.{signed_word, byte_at, big_at, standard_of, case_jump_at, read_at, by_row, instr_of, instr_at}
use Rattle.pcode_ops.specs.Faults.{IsOpcodeOf, LacksBig, LacksStandard, LacksCases, LacksOperands, IsUnread, past, refused, lacking}
use Rattle.pcode_ops.proofs.Rows.{row_found, row_is}
use Rattle.pcode_ops.proofs.DecodedIsAt.{operands_there}

-- ---- operands

byte_cut : (code : List ℕ) (i : ℕ) (f : OpFault) → (byte_at code i ≡ Err f) ↔ ((f ≡ fault.Cut) × (length code ≤ i))
byte_cut code i f = grind (arith, nat_tests, get_none, slice_get_past)

standard_fails : (j n : ℕ) (f : OpFault) → LacksStandard n f → standard_of j n ≡ Err f
standard_fails j n f (inl h) = grind (arith, nat_tests)
standard_fails j n f (inr h) =
    grind (arith, nat_tests, (h.4 IoCheck), (h.4 UnitRead), (h.4 UnitWrite), (h.4 IoResult), (h.4 Halt))

big_lacking : (code : List ℕ) (i : ℕ) (f : OpFault) → (big_at code i ≡ Err f) ↔ ((f ≡ fault.Cut) × LacksBig code i)
big_lacking code i f = grind (arith, nat_tests, slice_get_cases code i, slice_get_cases code (i + 1))

-- ---- forms

lacking_standard : (code : List ℕ) (i op : ℕ) (f : OpFault) → (read_at code i op op Standard ≡ Err f) ↔ LacksOperands code i op Standard f
lacking_standard code i op f = (
  λ e. grind (arith, nat_tests, slice_get_cases code (i + 1)),
  elim [
    | inl cut ↦ rw (slice_get_past code (i + 1) cut.1, cut.0) refl
    | inr there ↦ rw there.1 (standard_fails (i + 2) there.0 f there.2)
  ],
)

-- which check of a case jump fails whose W1, W2 and UJP are there, where P says that the UJP is one
cases_tests : {P : Type 0} (size at jump : ℕ) (low high : ℤ) (made : Instr × ℕ) (f : OpFault) → at + 6 ≤ size → (jump ≡ 185) ↔ P
    → (cond (ltb size (at + 6)) (Err fault.Cut) (cond (eqb (cases low high) 0) (Err fault.CaseTable) (cond (eqb jump 185)
    (cond (ltb size (at + 6 + 2 * cases low high)) (Err fault.Cut) (Ok made)) (Err fault.CaseTable))) ≡ Err f)
    ↔ (((f ≡ fault.CaseTable) × ((high <ℤ low) ⊎ ¬ P))
    ⊎ ((f ≡ fault.Cut) × (low ≤ℤ high) × P × (size < at + 6 + 2 * cases low high)))
cases_tests size at jump low high made f long is = grind (arith, ints, nat_tests)

word_is : (code : List ℕ) (at j : ℕ) (w : ℤ) → SignedWord code at w j → w ≡ signed_word code at
word_is code at j w there = grind (arith, gets)

lacking_cases : (code : List ℕ) (i : ℕ) (f : OpFault) → (case_jump_at code i ≡ Err f) ↔ LacksCases code i f
lacking_cases code i f = elim (cases_lt (length code) (i + 6)) [
  | inl short ↦ grind (arith, nat_tests)
  | inr long ↦
      let words = operands_there code i long in
      let jump : (slice_index code (i + 4) ≡ 185) ↔ HasByte code (i + 4) 185 = grind (arith, slice_get-get_or, gets) in
      let checks = cases_tests (length code) i _ (signed_word code i) (signed_word code (i + 2)) _ f long jump in (
        λ e. inr (_, _, words.0, words.1, long, checks.0 e),
        elim [
          | inl cut ↦ absurd (omega (arith, cut.1))
          | inr g ↦ checks.1 (rw (word_is code i _ _ g.2, word_is code (i + 2) _ _ g.3) at g.5)
        ],
      )
]

-- ---- an opcode and what follows it

lacking_form : (code : List ℕ) (i op first : ℕ) (form : Form) (f : OpFault)
    → (read_at code i op first form ≡ Err f) ↔ LacksOperands code i op form f
lacking_form code i op first (Alone made) f = (λ e. cc, λ h. absurd h)
lacking_form code i op first (Numbered count number make) f = (λ e. cc, λ h. absurd h)
lacking_form code i op first (WithByte make) f = grind (arith, byte_cut code (i + 1) f)
lacking_form code i op first (WithBig make) f = grind (arith, big_lacking code (i + 1) f)
lacking_form code i op first (WithWord make) f = grind (arith, nat_tests, slice_get_cases code (i + 1), slice_get_cases code (i + 2))
lacking_form code i op first (WithLevels make) f = grind (arith, byte_cut code (i + 1) f, big_lacking code (i + 2) f)
lacking_form code i op first (WithSigned make) f = grind (arith, byte_cut code (i + 1) f)
lacking_form code i op first (Typed made) f = grind (arith, nat_tests, slice_get_cases code (i + 1))
lacking_form code i op first Packed f = grind (arith, nat_tests, slice_get_cases code (i + 1), slice_get_cases code (i + 2))
lacking_form code i op first Standard f = lacking_standard code i op f
lacking_form code i op first CaseJump f = lacking_cases code (i + 1 + (i + 1) % 2) f

-- ---- bytes

opcode_is : (op first : ℕ) (form : Form) → (has_opcode op first form ≡ true) ↔ IsOpcodeOf op first form
opcode_is op first (Numbered count number make) =
    (λ e. (op - first, grind (arith, nat_tests), grind (arith, nat_tests)), λ h. grind (arith, nat_tests))
opcode_is op first other = grind (arith, nat_tests)

unread_by : (code : List ℕ) (i op : ℕ) (f : OpFault) (o : Option (ℕ × Form)) → HasByte code i op → row_of op opcodes ≡ o
    → by_row code i op o ≡ Err f → IsUnread code i f
unread_by code i op f None at none e =
    refused op at (λ first form row is. absurd (cc (none, row_is op row.0 (first, form) row.1 ((opcode_is op first form).1 is)))) (cc)
unread_by code i op f (Some row) at found e =
    let is = row_found op opcodes row found in
    lacking op row.0 row.1 at (is.0, is.1) ((opcode_is op row.0 row.1).0 is.2) ((lacking_form code i op row.0 row.1 f).0 e)

pub bytes_unread : (code : List ℕ) (i : ℕ) (f : OpFault) → instr_at code i ≡ Err f → IsUnread code i f
unfolding instr_of
bytes_unread code i f e = elim (slice_get_cases code i).1 [
  | inl (op, _, at, _) ↦ unread_by code i op f (row_of op opcodes) at refl (rw at at e)
  | inr (far, none) ↦ past far (let cut = rw none at e in cc)
]

-- ---- and back

row_none : (op : ℕ) (o : Option (ℕ × Form)) → row_of op opcodes ≡ o
    → ((first : ℕ) (form : Form) → IsTableRow first form → ¬ (IsOpcodeOf op first form)) → row_of op opcodes ≡ None
row_none op None e none = e
row_none op (Some row) e none =
    let is = row_found op opcodes row e in absurd (none row.0 row.1 (is.0, is.1) ((opcode_is op row.0 row.1).0 is.2))

pub not_read : (code : List ℕ) (i : ℕ) (f : OpFault) → IsUnread code i f → instr_at code i ≡ Err f
unfolding instr_of
not_read code i f (past far is) = rw (slice_get_past code i far, is) refl
not_read code i f (refused op at none is) = rw (at, row_none op (row_of op opcodes) refl none, is) refl
not_read code i f (lacking op first form at row is lacks) =
    rw (at, row_is op row.0 (first, form) row.1 ((opcode_is op first form).1 is)) ((lacking_form code i op first form f).1 lacks)
