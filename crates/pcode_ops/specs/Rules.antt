-- The rules of loading as relations: which instructions a procedure may hold, and where they lead.
use Rattle.std.specs.Prelude.{◌≡◌, ◌≢◌, ℕ, ◌+◌, ◌-◌, ◌*◌, ◌%◌, ◌<◌, ◌≤◌, ◌⊎◌, List, Some, ℤ, pos, ◌≤ℤ◌, ◌<ℤ◌, unsigned_abs}
use Rattle.pcode_file.specs.declared.file.Proc.{Proc}
use Rattle.pcode_file.specs.Parts.{word, end_of, procedure_of}
use Rattle.pcode_ops.specs.declared.instr.Instr.{Instr}
use Rattle.pcode_ops.specs.declared.instr.Instr.TheVariants.{Lod, Str, Lda, Clp, Cgp, Cip, Rnp, Rbp}
use Rattle.pcode_ops.specs.At.{cases}
use Rattle.pcode_ops.specs.Loading.{Flow, On, Jumps, Branches, Switches, Ends}

-- ---- Calls, static links and returns.

-- The procedure `n`, at a lex level with `P`.
abbrev pub HasLevel : List Proc → ℕ → (ℕ → Type 0) → Type 0
HasLevel procs n P = (callee : Proc) × (procedure_of procs n ≡ Some callee) × P callee.level

-- The instructions that procedure `q` may hold.
-- A call leads one lex level further in, to level 1, or to a level from 1 to one further in. A
-- frame has as many static links above it as its procedure's level. Procedure 1 ends the program.
-- The others return with at most 2 words.
-- Source: Manual, lex levels.
abbrev pub MayHold : List Proc → Proc → Instr → Type 0
MayHold procs q (Clp n) = HasLevel procs n (λ level. level ≡ q.level + 1)
MayHold procs q (Cgp n) = HasLevel procs n (λ level. level ≡ 1)
MayHold procs q (Cip n) = HasLevel procs n (λ level. (1 ≤ level) × (level ≤ q.level + 1))
MayHold procs q (Lod levels n) = levels ≤ q.level
MayHold procs q (Str levels n) = levels ≤ q.level
MayHold procs q (Lda levels n) = levels ≤ q.level
MayHold procs q (Rnp n) = (q.number ≢ 1) × (n ≤ 2)
MayHold procs q (Rbp n) = q.number ≡ 1
MayHold procs q _ = Unit {0}

-- ---- Jumps.

-- The offsets in the part of procedure `q`.
abbrev pub LiesIn : Proc → ℕ → Type 0
LiesIn q i = (q.low ≤ i) × (i < end_of q)

-- The place `t`, in the part of procedure `q`, to which the self-relative pointer at `place` leads.
abbrev pub PointsTo : List ℕ → Proc → ℕ → ℕ → Type 0
PointsTo segment q place t =
    (word segment place ≤ place) × (t ≡ place - word segment place) × LiesIn q t

-- The target `t` of a jump of procedure `q` by `sb` that ends at `j`.
-- The jump goes forward by `sb`, or through the word of the jump table at JTAB + SB, which lies in
-- the part.
-- Source: Manual, jump tables.
abbrev pub JumpsTo : List ℕ → Proc → ℤ → ℕ → ℕ → Type 0
JumpsTo segment q sb j t =
    ((pos 0 ≤ℤ sb) × (t ≡ j + unsigned_abs sb) × LiesIn q t)
    ⊎ ((sb <ℤ pos 0) × (unsigned_abs sb % 2 ≡ 0) × (10 ≤ unsigned_abs sb)
    × (q.low + unsigned_abs sb ≤ q.jtab) × PointsTo segment q (q.jtab - unsigned_abs sb) t)

-- The offset `t` to which a flow that ends at `j` leads.
-- Source: Manual, flow of control.
abbrev pub Leads : List ℕ → Proc → Flow → ℕ → ℕ → Type 0
Leads segment q On j t = (t ≡ j) × LiesIn q t
Leads segment q (Jumps sb) j t = JumpsTo segment q sb j t
Leads segment q (Branches sb) j t = JumpsTo segment q sb j t ⊎ ((t ≡ j) × LiesIn q t)
Leads segment q (Switches low high table) j t =
    (t ≡ table - 2) ⊎ ((k : ℕ) × (k < cases low high) × PointsTo segment q (table + 2 * k) t)
Leads segment q Ends j t = ⊥

-- The flows that lead nowhere out of the part.
-- Source: Manual, flow of control.
abbrev pub MayFlow : List ℕ → Proc → Flow → ℕ → Type 0
MayFlow segment q On j = LiesIn q j
MayFlow segment q (Jumps sb) j = (t : ℕ) × JumpsTo segment q sb j t
MayFlow segment q (Branches sb) j = ((t : ℕ) × JumpsTo segment q sb j t) × LiesIn q j
MayFlow segment q (Switches low high table) j =
    (k : ℕ) → k < cases low high → (t : ℕ) × PointsTo segment q (table + 2 * k) t
MayFlow segment q Ends j = Unit {0}
