-- The table of instructions: for each opcode its form, which says what operands follow, and which
-- instruction they make.
use Rattle.std.specs.Prelude.{◌≡◌, ℕ, ◌+◌, nat_lt, nat_le, ◌==◌, ◌&&◌, if◌then◌else◌, Bool, true, false, List, [], ◌∷◌, ◌++◌, Option, Some, None, slice_get, ℤ}
use Rattle.pcode_ops.specs.declared.instr.Instr.{Instr}
use Rattle.pcode_ops.specs.declared.instr.Instr.TheVariants.{Sldc, Ldcn, Ldci, Sldl, Ldl, Stl, Lla, Sldo, Ldo, Sro, Lao, Lod, Str, Lda, Sto, Sind, Ind, Inc, Ixa, Mov, Ldm, Stm, Ldb, Stb, Ldp, Stp, Adi, Sbi, Mpi, Dvi, Modi, Abi, Ngi, Sqi, Chk, Land, Lor, Lnot, Equi, Neqi, Leqi, Lesi, Geqi, Grti, Equ, Neq, Leq, Les, Geq, Grt, Ujp, Fjp, Efj, Nfj, Clp, Cgp, Cip, Rnp, Rbp, Nop}
use Rattle.pcode_ops.specs.declared.fault.OpFault.{OpFault}
use Rattle.pcode_ops.specs.declared.fault.OpFault.TheVariants as fault

-- ---- Forms.

-- What follows an opcode, and the instruction that it makes.
-- Source: Manual, p-machine instructions.
pub data Form : Type 0 where
  -- Nothing.
  Alone : Instr → Form
  -- Nothing: a count of opcodes in a row have the numbers from one on.
  Numbered : ℕ → ℕ → (ℕ → Instr) → Form
  -- UB or DB: one byte.
  WithByte : (ℕ → Instr) → Form
  -- B: one or two bytes.
  WithBig : (ℕ → Instr) → Form
  -- W: a word.
  WithWord : (ℕ → Instr) → Form
  -- DB,B: levels, then an offset.
  WithLevels : (ℕ → ℕ → Instr) → Form
  -- SB: a signed byte.
  WithSigned : (ℤ → Instr) → Form
  -- A type byte, which has to be 6.
  Typed : Instr → Form
  -- UB,UB: the number of elements of a word and their width, for IXP.
  Packed : Form
  -- UB: the number of a standard procedure, for CSP.
  Standard : Form
  -- W1, W2, a UJP and a table, for XJP.
  CaseJump : Form

-- ---- The table: each opcode with its form.

-- The rows of constants.
-- Source: Manual, p-machine instructions.
abbrev pub constant_rows : List (ℕ × Form)
constant_rows =
    (0, Numbered 128 0 (λ n. Sldc n))
    ∷ (159, Alone Ldcn)
    ∷ (199, WithWord (λ n. Ldci n))
    ∷ []

-- The rows of words of the current frame and of the main frame.
-- Source: Manual, p-machine instructions.
abbrev pub frame_rows : List (ℕ × Form)
frame_rows =
    (216, Numbered 16 1 (λ n. Sldl n))
    ∷ (202, WithBig (λ n. Ldl n))
    ∷ (204, WithBig (λ n. Stl n))
    ∷ (198, WithBig (λ n. Lla n))
    ∷ (232, Numbered 16 1 (λ n. Sldo n))
    ∷ (169, WithBig (λ n. Ldo n))
    ∷ (171, WithBig (λ n. Sro n))
    ∷ (165, WithBig (λ n. Lao n))
    ∷ []

-- The rows of words of a frame some static links up.
-- Source: Manual, p-machine instructions.
abbrev pub link_rows : List (ℕ × Form)
link_rows =
    (182, WithLevels (λ levels n. Lod levels n))
    ∷ (184, WithLevels (λ levels n. Str levels n))
    ∷ (178, WithLevels (λ levels n. Lda levels n))
    ∷ []

-- The rows of words, bytes and packed elements at pointers.
-- Source: Manual, p-machine instructions.
abbrev pub pointer_rows : List (ℕ × Form)
pointer_rows =
    (154, Alone Sto)
    ∷ (248, Numbered 8 0 (λ n. Sind n))
    ∷ (163, WithBig (λ n. Ind n))
    ∷ (162, WithBig (λ n. Inc n))
    ∷ (164, WithBig (λ n. Ixa n))
    ∷ (168, WithBig (λ n. Mov n))
    ∷ (188, WithByte (λ n. Ldm n))
    ∷ (189, WithByte (λ n. Stm n))
    ∷ (190, Alone Ldb)
    ∷ (191, Alone Stb)
    ∷ (192, Packed)
    ∷ (186, Alone Ldp)
    ∷ (187, Alone Stp)
    ∷ []

-- The rows of arithmetic and logic.
-- Source: Manual, p-machine instructions.
abbrev pub arithmetic_rows : List (ℕ × Form)
arithmetic_rows =
    (130, Alone Adi)
    ∷ (149, Alone Sbi)
    ∷ (143, Alone Mpi)
    ∷ (134, Alone Dvi)
    ∷ (142, Alone Modi)
    ∷ (128, Alone Abi)
    ∷ (145, Alone Ngi)
    ∷ (152, Alone Sqi)
    ∷ (136, Alone Chk)
    ∷ (132, Alone Land)
    ∷ (141, Alone Lor)
    ∷ (147, Alone Lnot)
    ∷ []

-- The rows of comparisons of integers, and of Booleans, which have a type byte.
-- Source: Manual, p-machine instructions.
abbrev pub comparison_rows : List (ℕ × Form)
comparison_rows =
    (195, Alone Equi)
    ∷ (203, Alone Neqi)
    ∷ (200, Alone Leqi)
    ∷ (201, Alone Lesi)
    ∷ (196, Alone Geqi)
    ∷ (197, Alone Grti)
    ∷ (175, Typed Equ)
    ∷ (183, Typed Neq)
    ∷ (180, Typed Leq)
    ∷ (181, Typed Les)
    ∷ (176, Typed Geq)
    ∷ (177, Typed Grt)
    ∷ []

-- The rows of jumps, calls, returns and NOP.
-- Source: Manual, p-machine instructions.
abbrev pub flow_rows : List (ℕ × Form)
flow_rows =
    (185, WithSigned (λ sb. Ujp sb))
    ∷ (161, WithSigned (λ sb. Fjp sb))
    ∷ (211, WithSigned (λ sb. Efj sb))
    ∷ (212, WithSigned (λ sb. Nfj sb))
    ∷ (172, CaseJump)
    ∷ (206, WithByte (λ n. Clp n))
    ∷ (207, WithByte (λ n. Cgp n))
    ∷ (174, WithByte (λ n. Cip n))
    ∷ (158, Standard)
    ∷ (173, WithByte (λ n. Rnp n))
    ∷ (193, WithByte (λ n. Rbp n))
    ∷ (215, Alone Nop)
    ∷ []

-- The table of all opcodes, each with its form.
-- Source: Manual, p-machine instructions.
abbrev pub opcodes : List (ℕ × Form)
opcodes =
    constant_rows
    ++ (frame_rows
    ++ (link_rows
    ++ (pointer_rows ++ (arithmetic_rows ++ (comparison_rows ++ flow_rows)))))

-- The opcode and the form of a row of the table.
-- Of a form with several opcodes the row has the first.
abbrev pub IsTableRow : ℕ → Form → Type 0
IsTableRow opcode form = (k : ℕ) × (slice_get opcodes k ≡ Some (opcode, form))

-- ---- The row of an opcode.

-- The test that `op` is the opcode of a row, or one of its opcodes.
abbrev pub has_opcode : ℕ → ℕ → Form → Bool
has_opcode op first (Numbered count number make) = nat_le first op && nat_lt op (first + count)
has_opcode op first _ = op == first

-- The first of these rows that has the opcode.
abbrev pub row_of : ℕ → List (ℕ × Form) → Option (ℕ × Form)
row_of op [] = None
row_of op (row ∷ rows) = if has_opcode op row.0 row.1 then Some row else row_of op rows

-- The test that `op` is one of these numbers.
abbrev pub is_among : ℕ → List ℕ → Bool
is_among op [] = false
is_among op (x ∷ xs) = if op == x then true else is_among op xs

-- The refusal of an opcode without a row.
abbrev pub opcode_refusal : ℕ → OpFault
opcode_refusal op =
    if is_among op (129 ∷ 131 ∷ 135 ∷ 137 ∷ 138 ∷ 144 ∷ 146 ∷ 150 ∷ 153 ∷ []) then fault.Real
    else if is_among op (133 ∷ 139 ∷ 140 ∷ 148 ∷ 151 ∷ 156 ∷ 160 ∷ []) then fault.Set
    else if is_among op (155 ∷ 166 ∷ 170 ∷ []) then fault.Str
    else if is_among op (157 ∷ 167 ∷ 205 ∷ 209 ∷ []) then fault.Segment
    else fault.Unsupported op
