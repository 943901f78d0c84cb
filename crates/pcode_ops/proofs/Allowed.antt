-- An instruction at a reached offset may be in the procedure that owns the offset.
use Rattle.std.proofs.Common.{◌≡◌, ℕ, zero, suc, Some, Ok}
use Rattle.pcode_file.specs.declared.file.Proc.{Proc}
use Rattle.pcode_file.specs.InFile.{AreProcs}
use Rattle.pcode_file.specs.Parts.{Parts, procedure_of}
use Rattle.pcode_ops.specs.declared.instr.Instr.{Instr}
use Rattle.pcode_ops.specs.Decoding.{instr_at}
use Rattle.pcode_ops.specs.Loading.{owner, flow_of, IsFine, HasNext}
use Rattle.pcode_ops.specs.Reach.{Reach, entered, exited, followed, MayStand}
use Rattle.pcode_ops.proofs.Apart.{lies_in, owned}
use Rattle.pcode_ops.proofs.Leading.{looked_inside}
use Rattle.pcode_ops.proofs.FineOffsets.{owner_is, fine_looked}
use Rattle.pcode_ops.proofs.Ruling.{next_led}

-- ---- where the checks of an offset allow an instruction

-- what is decoded at a reached offset without fault may be in the procedure that owns it
pub may_stand : (p : Parts) (i : ℕ) (q : Proc) (found : Instr × ℕ) → AreProcs p.segment p.procs
    → owner p.procs i ≡ Ok q → Ok found ≡ instr_at p.segment i → Reach p i → IsFine p i → MayStand p q found.0 found.1
may_stand p i q found h own there reach fine =
    let l = fine_looked p i fine in
    let at = owner_is p.procs i l.q l.owned in
    let same_owner : l.q ≡ q = cc (own, l.owned) in
    let same : (l.instr, l.next) ≡ found = cc (there, l.found) in
    rw (← same_owner, ← same) (record {
      legal = l.legal;
      leads = l.leads;
      found = l.onward;
      reached = λ k to. (followed i k l.leads reach l.looked to, owned p (suc at.0) k l.q h at.1 (looked_inside p i l k to));
    })

-- ---- what follows

-- ENTER and EXIT of a procedure are reached, and owned by the procedure
pub ends_owned : (p : Parts) (n : ℕ) (q : Proc) → AreProcs p.segment p.procs → procedure_of p.procs n ≡ Some q
    → (Reach p q.enter × (owner p.procs q.enter ≡ Ok q)) × (Reach p q.exit × (owner p.procs q.exit ≡ Ok q))
ends_owned p zero q h at = absurd cc
ends_owned p (suc k) q h at =
    let is = h.each k q at in (
      (entered k q at, owned p (suc k) q.enter q h at ((lies_in q q.enter).1 (is.enter.above, is.enter.below))),
      (exited k q at, owned p (suc k) q.exit q h at ((lies_in q q.exit).1 (is.exit.above, is.exit.below))),
    )

-- the offset after an instruction that goes on is reached, and owned by its procedure
pub next_owned : (p : Parts) (q : Proc) (instr : Instr) (next : ℕ) → MayStand p q instr next → HasNext instr
    → Reach p next × (owner p.procs next ≡ Ok q)
next_owned p q instr next m has = m.reached next (next_led p.segment q (flow_of instr) next m.leads has m.found)
