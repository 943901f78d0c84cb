-- All checks of an offset in their order: where the offset leads, or the first fault.
use Rattle.std.specs.Prelude.{◌≡◌, ◌≢◌, ℕ, zero, suc, ◌+◌, ◌-◌, ◌*◌, ◌%◌, ◌<◌, nat_lt, nat_le, ◌==◌, ◌&&◌, ◌||◌, if◌then◌else◌, Bool, true, ◌⊎◌, List, [], ◌∷◌, take, Option, Some, None, Result, Ok, Err, ℤ, pos, int_le, unsigned_abs}
use Rattle.base.specs.Steps.{◌>>=◌, unless}
use Rattle.pcode_file.specs.declared.file.Proc.{Proc}
use Rattle.pcode_file.specs.Parts.{Parts, word, procedure_of, end_of}
use Rattle.pcode_ops.specs.declared.instr.Instr.{Instr}
use Rattle.pcode_ops.specs.declared.instr.Instr.TheVariants.{Lod, Str, Lda, Ujp, Fjp, Efj, Nfj, Xjp, Clp, Cgp, Cip, Rnp, Rbp}
use Rattle.pcode_ops.specs.declared.fault.OpFault.{OpFault}
use Rattle.pcode_ops.specs.declared.fault.OpFault.TheVariants.{Cut, NoProcedure, CallLevel, LinkDepth, ReturnForm, JumpRange}
use Rattle.pcode_ops.specs.declared.loading.Onward.{Onward}
use Rattle.pcode_ops.specs.declared.loading.Levels.{Levels}
use Rattle.pcode_ops.specs.declared.loading.Levels.TheVariants.{Below, First, Reachable}
use Rattle.pcode_ops.specs.At.{cases}
use Rattle.pcode_ops.specs.Decoding.{instr_at}

-- The test that offset `i` lies in the part of procedure `q`.
-- Source: Manual, code segments.
abbrev pub is_in : Proc → ℕ → Bool
is_in q i = nat_le q.low i && nat_lt i (end_of q)

-- The first procedure in whose part offset `i` lies.
-- Source: Manual, code segments.
abbrev pub owner : List Proc → ℕ → Result Proc OpFault
owner [] i = Err Cut
owner (q ∷ qs) i = if is_in q i then Ok q else owner qs i

-- The check that a callee exists and its lex level passes a test.
abbrev pub callee_by : Option Proc → (ℕ → Bool) → Result Unit OpFault
callee_by None is_good = Err NoProcedure
callee_by (Some callee) is_good = if is_good callee.level then Ok tt else Err CallLevel

-- The check that procedure `n` exists and its lex level passes a test.
abbrev pub legal_call : List Proc → ℕ → (ℕ → Bool) → Result Unit OpFault
legal_call procs n is_good = callee_by (procedure_of procs n) is_good

-- The test that procedure `q` may call one of a lex level, by a call that leads to `Levels`.
-- Source: Manual, lex levels.
abbrev pub is_callable : Levels → Proc → ℕ → Bool
is_callable Below q level = level == q.level + 1
is_callable First q level = level == 1
is_callable Reachable q level = nat_le 1 level && nat_le level (q.level + 1)

-- The check that there is a frame `levels` static links up from one of procedure `q`.
-- Source: Manual, lex levels.
abbrev pub legal_links : Proc → ℕ → Result Unit OpFault
legal_links q levels = unless LinkDepth (nat_lt q.level levels) tt

-- The check that procedure `q` may hold the instruction: its callee, its static links, its form of
-- return.
-- Source: Manual, lex levels.
abbrev pub legal : List Proc → Proc → Instr → Result Unit OpFault
legal procs q (Clp n) = legal_call procs n (λ level. level == q.level + 1)
legal procs q (Cgp n) = legal_call procs n (λ level. level == 1)
legal procs q (Cip n) = legal_call procs n (λ level. nat_le 1 level && nat_le level (q.level + 1))
legal procs q (Lod levels n) = legal_links q levels
legal procs q (Str levels n) = legal_links q levels
legal procs q (Lda levels n) = legal_links q levels
legal procs q (Rnp n) = unless ReturnForm ((q.number == 1) || nat_lt 2 n) tt
legal procs q (Rbp n) = if q.number == 1 then Ok tt else Err ReturnForm
legal procs q _ = Ok tt

-- ---- Where jumps lead.

-- The test that the self-relative pointer at `place` leads into the part.
abbrev pub leads_in : List ℕ → Proc → ℕ → Bool
leads_in segment q place = nat_le (word segment place) place && is_in q (place - word segment place)

-- The target of a jump through the word at `place` of the jump table.
abbrev pub through : List ℕ → Proc → ℕ → Result ℕ OpFault
through segment q place =
    if leads_in segment q place then Ok (place - word segment place) else Err JumpRange

-- The target of a jump that ends at `j`, if it lies in the part.
-- From 0 on `sb` is a distance after `j`. Below 0 the jump goes through the word of the jump table
-- at JTAB + SB, which lies in the part: `sb` is even then, and at most -10.
-- Source: Manual, jump tables.
abbrev pub jump_to : List ℕ → Proc → ℤ → ℕ → Result ℕ OpFault
jump_to segment q sb j =
    let by = unsigned_abs sb in
    if int_le (pos 0) sb then (if is_in q (j + by) then Ok (j + by) else Err JumpRange)
    else if (by % 2 == 0) && nat_le 10 by && nat_le (q.low + by) q.jtab
    then through segment q (q.jtab - by)
    else Err JumpRange

-- The test that `n` entries of a case table from `place` on lead into the part.
unfoldable pub entries_in : List ℕ → Proc → ℕ → ℕ → Bool
entries_in segment q place zero = true
entries_in segment q place (suc n) = leads_in segment q place && entries_in segment q (place + 2) n

-- The next offset beside a jump's target, if it lies in the part.
abbrev pub goes_on : Proc → ℕ → Option ℕ → Result Onward OpFault
goes_on q j target =
    if is_in q j then Ok (record { next = Some j; target = target; table = 0; count = 0 })
    else Err Cut

-- The end of a procedure's flow: no offset follows but a jump's target.
abbrev pub ends_at : Option ℕ → Onward
ends_at target = record { next = None; target = target; table = 0; count = 0 }

-- The target of a jump, and the next offset.
abbrev pub branch_to : List ℕ → Proc → ℤ → ℕ → Result Onward OpFault
branch_to segment q sb j = jump_to segment q sb j >>= λ t. goes_on q j (Some t)

-- The entries of a case table, and the UJP before it.
abbrev pub cases_to : List ℕ → Proc → ℕ → ℕ → Result Onward OpFault
cases_to segment q table count =
    if entries_in segment q table count
    then Ok (record { next = Some (table - 2); target = None; table = table; count = count })
    else Err JumpRange

-- The way in which the machine goes on after an instruction.
-- Source: Manual, flow of control.
pub data Flow : Type 0 where
  -- At the next offset.
  On : Flow
  -- At the target of a jump.
  Jumps : ℤ → Flow
  -- At the target of a jump or at the next offset.
  Branches : ℤ → Flow
  -- At an entry of a case table, from W1 to W2, or at the UJP before it.
  Switches : ℤ → ℤ → ℕ → Flow
  -- At no offset of its procedure.
  Ends : Flow

-- The way in which the machine goes on after an instruction, by its opcode and operands.
-- Source: Manual, flow of control.
abbrev pub flow_of : Instr → Flow
flow_of (Ujp sb) = Jumps sb
flow_of (Fjp sb) = Branches sb
flow_of (Efj sb) = Branches sb
flow_of (Nfj sb) = Branches sb
flow_of (Xjp low high sb table) = Switches low high table
flow_of (Rnp n) = Ends
flow_of (Rbp n) = Ends
flow_of _ = On

-- The offsets to which a flow that ends at `j` leads in procedure `q`: targets first, then the next
-- offset.
abbrev pub flows_to : List ℕ → Proc → Flow → ℕ → Result Onward OpFault
flows_to segment q On j = goes_on q j None
flows_to segment q (Jumps sb) j = jump_to segment q sb j >>= λ t. Ok (ends_at (Some t))
flows_to segment q (Branches sb) j = branch_to segment q sb j
flows_to segment q (Switches low high table) j = cases_to segment q table (cases low high)
flows_to segment q Ends j = Ok (ends_at None)

-- The offsets to which an instruction of procedure `q` leads that ends at `j`, if they lie in the
-- part.
-- Source: Manual, flow of control.
abbrev pub onward : List ℕ → Proc → Instr → ℕ → Result Onward OpFault
onward segment q instr j = flows_to segment q (flow_of instr) j

-- All checks of an offset in their order: where it leads, or the first fault.
-- The instruction's own checks see the bytes up to the end of the part.
-- The order of the checks is this project's.
unfoldable pub look : Parts → ℕ → Result Onward OpFault
look p i =
    owner p.procs i >>= λ q.
    instr_at (take (end_of q) p.segment) i >>= λ found.
    legal p.procs q found.0 >>= λ _.
    onward p.segment q found.0 found.1

-- The first fault of an offset.
abbrev pub IsFaulty : Parts → ℕ → OpFault → Type 0
IsFaulty p i f = look p i ≡ Err f

-- The claim that an offset has no fault.
abbrev pub IsFine : Parts → ℕ → Type 0
IsFine p i = (f : OpFault) → look p i ≢ Err f

-- The place `j` to which an entry of the case table leads.
abbrev pub IsCaseEntry : List ℕ → ℕ → ℕ → ℕ → Type 0
IsCaseEntry segment table count j =
    (k : ℕ) × (k < count) × (j ≡ table + 2 * k - word segment (table + 2 * k))

-- The offset `j` to which an instruction leads: the next one, the jump's target, or an entry of the
-- case table.
-- Source: Manual, flow of control.
abbrev pub LeadsTo : List ℕ → Onward → ℕ → Type 0
LeadsTo segment o j =
    (o.next ≡ Some j) ⊎ (o.target ≡ Some j) ⊎ IsCaseEntry segment o.table o.count j

-- The claim that a flow goes on at the next offset.
abbrev pub HasNextBy : Flow → Type 0
HasNextBy On = Unit {0}
HasNextBy (Branches sb) = Unit {0}
HasNextBy _ = ⊥

-- The claim that the offset after an instruction is reached from it.
-- Source: Manual, flow of control.
abbrev pub HasNext : Instr → Type 0
HasNext instr = HasNextBy (flow_of instr)

-- The operand of a flow that is a jump.
abbrev pub JumpsWith : Flow → ℤ → Type 0
JumpsWith (Jumps sb) by = sb ≡ by
JumpsWith (Branches sb) by = sb ≡ by
JumpsWith _ by = ⊥

-- The operand of an instruction that is a jump.
abbrev pub JumpsBy : Instr → ℤ → Type 0
JumpsBy instr sb = JumpsWith (flow_of instr) sb
