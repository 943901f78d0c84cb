-- Where jumps and case jumps lead that loading has let pass: to reached offsets of the segment.
use Rattle.std.proofs.Common.{◌≡◌, ℕ, zero, suc, ◌+◌, ◌<◌, ◌&&◌, length, List, Some, IsSome, Ok, inl, inr, refl, arith, ℤ, pos, ◌-ℤ◌, ◌≤ℤ◌, int_le, unsigned_abs}
use Rattle.std.proofs.lemmas.Bool.{cond_both}
use Rattle.std.proofs.lemmas.Bool.Decides.{nat_tests}
use Rattle.std.proofs.lemmas.Int.{ints}
use Rattle.std.proofs.lemmas.Option.{slice_get_cases}
use Rattle.std.specs.Int.{w16, cast_signed}
use Rattle.base.proofs.Steps.{bind_ok}
use Rattle.pcode_file.specs.declared.file.Proc.{Proc}
use Rattle.pcode_file.specs.InFile.{AreProcs}
use Rattle.pcode_file.specs.Parts.{Parts, end_of, procedure_of}
use Rattle.pcode_ops.specs.declared.instr.Instr.{Instr}
use Rattle.pcode_ops.specs.declared.instr.Instr.TheVariants.{Xjp}
use Rattle.pcode_ops.specs.declared.loading.Onward.{Onward}
use Rattle.pcode_ops.specs.At.{cases}
use Rattle.pcode_ops.specs.Decoding.{instr_at}
use Rattle.pcode_ops.specs.Jumps.{jump_in, StaysWith, case_of, IsCaseTable}
use Rattle.pcode_ops.specs.Loading.{jump_to, Flow, Jumps, Branches, flow_of, flows_to, LeadsTo, JumpsWith, JumpsBy}
use Rattle.pcode_ops.specs.Reach.{MayStand}
use Rattle.pcode_ops.proofs.Operating.{operands_fit}
use Rattle.pcode_ops.proofs.Ruling.{cases_is, cases_made}

-- ---- jumps

-- a jump has a target, to which its flow leads
flow_target : (segment : List ℕ) (q : Proc) (flow : Flow) (sb : ℤ) (next : ℕ) (o : Onward) → JumpsWith flow sb
    → flows_to segment q flow next ≡ Ok o → (t : ℕ) × (jump_to segment q sb next ≡ Ok t) × (o.target ≡ Some t)
flow_target segment q (Jumps by) sb next o same e = grind (arith, bind_ok (jump_to segment q by next) _ o e)
flow_target segment q (Branches by) sb next o same e = grind (arith, bind_ok (jump_to segment q by next) _ o e)
flow_target segment q other sb next o same e = absurd same

-- a jump leads to an offset that is reached and owned by its procedure
pub jump_stays : (p : Parts) (n : ℕ) (q : Proc) (instr : Instr) (sb : ℤ) (next : ℕ) → JumpsBy instr sb
    → MayStand p q instr next → procedure_of p.procs n ≡ Some q → StaysWith p n q sb next
jump_stays p n q instr sb next jumps m at = grind (arith, flow_target p.segment q (flow_of instr) sb next m.leads jumps m.found)

-- a forward jump that leads somewhere leads into the segment
pub forward_below : (p : Parts) (n : ℕ) (sb : ℤ) (next : ℕ) → AreProcs p.segment p.procs → pos 0 ≤ℤ sb
    → IsSome (jump_in p n sb next) → next + unsigned_abs sb < length p.segment
forward_below p zero sb next h from leads = absurd cc
forward_below p (suc k) sb next h from leads = elim (slice_get_cases p.procs k).1 [
  | inl (q, _, at, _) ↦
      let lands : next + unsigned_abs sb < end_of q = grind (arith, ints, nat_tests, (rw at at leads)) in
      omega (arith, (h.each k q at).table.below, lands)
  | inr (_, none) ↦ absurd (cc (rw none at leads))
]

-- ---- case jumps

-- a case jump leads for each word to one of its targets
pub case_leads : (p : Parts) (q : Proc) (low high sb : ℤ) (table next w : ℕ)
    → (m : MayStand p q (Xjp low high sb table) next) → LeadsTo p.segment m.leads (case_of p.segment low high table w)
case_leads p q low high sb table next w m =
    let x = cast_signed w16 w in
    rw (← (cases_is p.segment q table (cases low high) m.leads m.found).1)
    (cond_both (int_le low x && int_le x high) _ _ (λ t. LeadsTo p.segment (cases_made table (cases low high)) t)
    (λ e. inr (inr (unsigned_abs (x -ℤ low), grind (arith, ints), refl))) (λ _. inl refl))

-- the table of a case jump lies in the segment, and its entries lead into the part
pub case_table : (p : Parts) (i : ℕ) (q : Proc) (low high sb : ℤ) (table next : ℕ)
    → instr_at p.segment i ≡ Ok (Xjp low high sb table, next) → MayStand p q (Xjp low high sb table) next
    → IsCaseTable p.segment q low high table
case_table p i q low high sb table next at m = grind (arith, operands_fit p.segment i (Xjp low high sb table) next at)
