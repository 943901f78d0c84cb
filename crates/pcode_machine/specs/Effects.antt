-- What each instruction does: a line for each, by one of a few effects.
use Rattle.std.specs.Prelude.{ℕ, ◌+◌, ◌%◌, ◌==◌, ◌≤◌, ◌<◌, if◌then◌else◌, length, Option, Some, None}
use Rattle.pcode_file.specs.declared.file.Proc.{Proc}
use Rattle.pcode_file.specs.Parts.{Parts, procedure_of}
use Rattle.pcode_ops.specs.declared.instr.Instr.{Instr}
use Rattle.pcode_ops.specs.declared.instr.Instr.TheVariants.{Sldc, Ldcn, Ldci, Sldl, Ldl, Stl, Lla, Sldo, Ldo, Sro, Lao, Lod, Str, Lda, Sto, Sind, Ind, Inc, Ixa, Mov, Ldm, Stm, Ldb, Stb, Ixp, Ldp, Stp, Adi, Sbi, Mpi, Dvi, Modi, Abi, Ngi, Sqi, Chk, Land, Lor, Lnot, Equi, Neqi, Leqi, Lesi, Geqi, Grti, Equ, Neq, Leq, Les, Geq, Grt, Ujp, Fjp, Efj, Nfj, Xjp, Clp, Cgp, Cip, Csp, Rnp, Rbp, Nop}
use Rattle.pcode_ops.specs.declared.instr.StandardProcedure.{StandardProcedure}
use Rattle.pcode_ops.specs.declared.instr.StandardProcedure.TheVariants.{IoCheck, UnitRead, UnitWrite, IoResult, Halt}
use Rattle.pcode_ops.specs.Jumps.{jump_in, case_of, IsCaseTable}
use Rattle.pcode_frames.specs.declared.frame.Frame.{Frame}
use Rattle.pcode_frames.specs.Frames.{link_up_of}
use Rattle.pcode_machine.specs.declared.turn.Direction.{Direction}
use Rattle.pcode_machine.specs.declared.turn.Direction.TheVariants.{Reading, Writing}
use Rattle.pcode_machine.specs.declared.operations.UnaryOperation.{UnaryOperation}
use Rattle.pcode_machine.specs.declared.operations.UnaryOperation.TheVariants.{Absolute, Negation, Square, Complement, Past}
use Rattle.pcode_ops.specs.declared.operation.Operation.{Operation}
use Rattle.pcode_ops.specs.declared.operation.Operation.TheVariants.{Sum, Difference, Product, Quotient, Remainder, Both, Either, Equal, NotEqual, LessOrEqual, Less, GreaterOrEqual, Greater, EqualBits, NotEqualBits, LessOrEqualBits, LessBits, GreaterOrEqualBits, GreaterBits, Element}
use Rattle.pcode_machine.specs.Configuration.{State}
use Rattle.pcode_machine.specs.Loads.{address_of}
use Rattle.pcode_machine.specs.Calls.{frame_up, link_outward}
use Rattle.pcode_machine.specs.declared.errors.ExecutionError.{ExecutionError}
use Rattle.pcode_machine.specs.declared.errors.ExecutionError.TheVariants.{NoUnit, Halted}

-- The effect of an instruction: what it does to the state, or that it is an error or the end.
pub data Effect : Type 0 where
  -- A word is pushed.
  Push : (word : ℕ) → Effect
  -- The word at a word address is pushed.
  Load : (word : ℕ) → Effect
  -- A word is popped to a word address.
  Store : (word : ℕ) → Effect
  -- The word at a distance in words after a pointer takes the pointer's place.
  Fetch : (words : ℕ) → Effect
  -- A word is popped to where the pointer below it points.
  StoreAt : Effect
  -- A number of words are copied, all read first, from the pointer on top to the one below it.
  MoveBlock : (words : ℕ) → Effect
  -- A number of words from a pointer on take its place, the first on top.
  LoadBlock : (words : ℕ) → Effect
  -- A number of words are popped to where the pointer below them points.
  StoreBlock : (words : ℕ) → Effect
  -- The byte at an index after a pointer takes their place.
  LoadByte : Effect
  -- A word's low byte is popped to an index after a pointer.
  StoreByte : Effect
  -- An index and a pointer are replaced by the field there, in words of this number of elements of
  -- this width.
  IndexField : (elements width : ℕ) → Effect
  -- The bits of the field that three words name take their place.
  LoadField : Effect
  -- A word's low bits are popped to the field that the three words below it name.
  StoreField : Effect
  -- A word is replaced by another.
  Replace : (operation : UnaryOperation) → Effect
  -- Two words are replaced by one.
  Combine : (operation : Operation) → Effect
  -- A word stays that lies between two others, which are popped.
  Check : Effect
  -- Execution goes on at an offset.
  Go : (offset : ℕ) → Effect
  -- Execution goes on where a popped word says.
  Branch : (to : ℕ → ℕ) → Effect
  -- Execution goes on where two popped words say, the lower one first.
  BranchByTwo : (to : ℕ → ℕ → ℕ) → Effect
  -- The procedure of a number is called. Its static link is the frame at an index.
  Call : (number : ℕ) (callee : Proc) (link : ℕ) → Effect
  -- The procedure of the current frame returns with a number of words.
  Return : (words : ℕ) (frame : Frame) → Effect
  -- A transfer starts.
  Begin : (direction : Direction) → Effect
  -- It is an error.
  Fail : (error : ExecutionError) → Effect
  -- The program ends.
  Finish : Effect
  -- Nothing is defined: a frame, a procedure or a target is named that does not exist. No machine
  -- meets it.
  Nowhere : Effect

-- The effect by what an instruction names, if that exists.
abbrev pub given : {A : Type 0} → Option A → (A → Effect) → Effect
given None f = Nowhere
given (Some x) f = f x

-- The effect of a call of procedure `n` with a static link.
abbrev pub calling : Parts → ℕ → Option ℕ → Effect
calling p n link = given (procedure_of p.procs n) (λ q. given link (λ k. Call n q k))

-- The effect of a standard procedure that ends at `j`.
-- Source: Manual, p-machine instructions.
abbrev pub standard : StandardProcedure → ℕ → State → Effect
standard IoCheck j s = if s.io_result == 0 then Go j else Fail NoUnit
standard UnitRead j s = Begin Reading
standard UnitWrite j s = Begin Writing
standard IoResult j s = Push s.io_result
standard Halt j s = Fail Halted

-- The effect of an instruction in the current frame `f`, before offset `j` and in state `s`.
-- Source: Manual, p-machine instructions.
abbrev pub effect_of : Parts → Frame → Instr → ℕ → State → Effect
effect_of p f (Sldc n) j s = Push n
effect_of p f Ldcn j s = Push 0
effect_of p f (Ldci n) j s = Push n
effect_of p f (Sldl n) j s = Load (f.base + n)
effect_of p f (Ldl n) j s = Load (f.base + n)
effect_of p f (Stl n) j s = Store (f.base + n)
effect_of p f (Lla n) j s = Push (address_of (f.base + n))
effect_of p f (Sldo n) j s = Load n
effect_of p f (Ldo n) j s = Load n
effect_of p f (Sro n) j s = Store n
effect_of p f (Lao n) j s = Push (address_of n)
effect_of p f (Lod levels n) j s = given (frame_up s.frames levels) (λ g. Load (g.base + n))
effect_of p f (Str levels n) j s = given (frame_up s.frames levels) (λ g. Store (g.base + n))
effect_of p f (Lda levels n) j s =
    given (frame_up s.frames levels) (λ g. Push (address_of (g.base + n)))
effect_of p f Sto j s = StoreAt
effect_of p f (Sind n) j s = Fetch n
effect_of p f (Ind n) j s = Fetch n
effect_of p f (Inc n) j s = Replace (Past n)
effect_of p f (Ixa n) j s = Combine (Element n)
effect_of p f (Mov n) j s = MoveBlock n
effect_of p f (Ldm n) j s = LoadBlock n
effect_of p f (Stm n) j s = StoreBlock n
effect_of p f Ldb j s = LoadByte
effect_of p f Stb j s = StoreByte
effect_of p f (Ixp elements width) j s = IndexField elements width
effect_of p f Ldp j s = LoadField
effect_of p f Stp j s = StoreField
effect_of p f Adi j s = Combine Sum
effect_of p f Sbi j s = Combine Difference
effect_of p f Mpi j s = Combine Product
effect_of p f Dvi j s = Combine Quotient
effect_of p f Modi j s = Combine Remainder
effect_of p f Abi j s = Replace Absolute
effect_of p f Ngi j s = Replace Negation
effect_of p f Sqi j s = Replace Square
effect_of p f Chk j s = Check
effect_of p f Land j s = Combine Both
effect_of p f Lor j s = Combine Either
effect_of p f Lnot j s = Replace Complement
effect_of p f Equi j s = Combine Equal
effect_of p f Neqi j s = Combine NotEqual
effect_of p f Leqi j s = Combine LessOrEqual
effect_of p f Lesi j s = Combine Less
effect_of p f Geqi j s = Combine GreaterOrEqual
effect_of p f Grti j s = Combine Greater
effect_of p f Equ j s = Combine EqualBits
effect_of p f Neq j s = Combine NotEqualBits
effect_of p f Leq j s = Combine LessOrEqualBits
effect_of p f Les j s = Combine LessBits
effect_of p f Geq j s = Combine GreaterOrEqualBits
effect_of p f Grt j s = Combine GreaterBits
effect_of p f (Ujp sb) j s = given (jump_in p f.procedure sb j) (λ target. Go target)
effect_of p f (Fjp sb) j s =
    given (jump_in p f.procedure sb j) (λ target. Branch (λ v. if v % 2 == 0 then target else j))
effect_of p f (Efj sb) j s =
    given (jump_in p f.procedure sb j) (λ target. BranchByTwo (λ a b. if a == b then j else target))
effect_of p f (Nfj sb) j s =
    given (jump_in p f.procedure sb j) (λ target. BranchByTwo (λ a b. if a == b then target else j))
effect_of p f (Xjp low high sb table) j s = Branch (λ v. case_of p.segment low high table v)
effect_of p f (Clp n) j s = calling p n (link_up_of s.frames 0)
effect_of p f (Cgp n) j s = calling p n (Some 0)
effect_of p f (Cip n) j s = calling p n (link_outward p f n s.frames)
effect_of p f (Csp n) j s = standard n j s
effect_of p f (Rnp n) j s = Return n f
effect_of p f (Rbp n) j s = Finish
effect_of p f Nop j s = Go j

-- The claim that what an effect names exists: the frame that a call links to, and a frame below the
-- one that returns.
abbrev pub IsPossible : Effect → State → Type 0
IsPossible Nowhere s = ⊥
IsPossible (Call number callee link) s = link < length s.frames
IsPossible (Return words frame) s = 2 ≤ length s.frames
IsPossible _ s = Unit {0}

-- The claim that the table of a case jump is one of some procedure.
-- Allows: an instruction other than XJP.
abbrev pub HasCaseTable : Parts → Instr → Type 0
HasCaseTable p (Xjp low high sb table) = (q : Proc) × IsCaseTable p.segment q low high table
HasCaseTable p _ = Unit {0}
