-- The checks of loading as functions and its rules as relations agree.
use Rattle.std.proofs.Common.{◌≡◌, ℕ, ◌-◌, ◌⊎◌, inl, inr, ◌↔◌, true, List, Option, Some, None, Result, Ok, refl, sym, ap, arith, ℤ}
use Rattle.std.proofs.lemmas.Bool.Decides.{nat_tests}
use Rattle.std.proofs.lemmas.Int.{ints}
use Rattle.base.specs.Steps.{◌>>=◌}
use Rattle.base.proofs.Steps.{bind_ok}
use Rattle.pcode_file.specs.declared.file.Proc.{Proc}
use Rattle.pcode_ops.specs.declared.fault.OpFault.{OpFault}
use Rattle.pcode_ops.specs.declared.instr.Instr.{Instr}
use Rattle.pcode_ops.specs.declared.loading.Onward.{Onward}
use Rattle.pcode_ops.specs.At.{cases}
use Rattle.pcode_ops.specs.Loading.{legal, jump_to, entries_in, goes_on, ends_at, cases_to, Flow, On, Jumps, Branches, Switches, Ends, flows_to, LeadsTo, HasNextBy}
use Rattle.pcode_ops.specs.Rules.{MayHold, LiesIn, JumpsTo, Leads, MayFlow}
use Rattle.pcode_ops.proofs.Entries.{entries_point}

-- ---- calls, static links and returns

-- the checks of an instruction's operands are the rules
pub may_hold : (procs : List Proc) (q : Proc) (instr : Instr) → (legal procs q instr ≡ Ok tt) ↔ MayHold procs q instr
may_hold procs q instr = grind (arith, nat_tests)

-- ---- parts of flows

-- a flow goes on at the next offset, if that lies in the part
goes : (q : Proc) (j : ℕ) (target : Option ℕ) → ((o : Onward) × (goes_on q j target ≡ Ok o)) ↔ LiesIn q j
goes q j target =
    (λ h. grind (arith, nat_tests), λ h. (record { next = Some j; target = target; table = 0; count = 0 }, grind (arith, nat_tests)))

-- where a case jump leads
abbrev pub cases_made : ℕ → ℕ → Onward
cases_made table count = record { next = Some (table - 2); target = None; table = table; count = count }

module _ (segment : List ℕ) (q : Proc) where
  -- the target of a jump is that of the rules
  pub jumps_to : (sb : ℤ) (j t : ℕ) → (jump_to segment q sb j ≡ Ok t) ↔ JumpsTo segment q sb j t
  jumps_to sb j t = grind (arith, ints, nat_tests)

  -- a case jump leads to the entries of its table, all of which lead into the part
  pub cases_is : (table count : ℕ) (o : Onward) → cases_to segment q table count ≡ Ok o
      → (entries_in segment q table count ≡ true) × (cases_made table count ≡ o)
  cases_is table count o e = grind arith

  -- ---- whether a flow leads anywhere out of the part

  -- the checks of a flow are the rules
  pub may_flow : (flow : Flow) (j : ℕ) → ((o : Onward) × (flows_to segment q flow j ≡ Ok o)) ↔ MayFlow segment q flow j
  may_flow On j = goes q j None
  may_flow (Jumps sb) j = (
    λ h. (let b = bind_ok (jump_to segment q sb j) _ h.0 h.1 in (b.0, (jumps_to sb j b.0).0 b.1)),
    λ h. (ends_at (Some h.0), rw ((jumps_to sb j h.0).1 h.1) refl),
  )
  may_flow (Branches sb) j = (
    λ h. (let b = bind_ok (jump_to segment q sb j) _ h.0 h.1 in
        ((b.0, (jumps_to sb j b.0).0 b.1), (goes q j (Some b.0)).0 (h.0, b.2))),
    λ h. (let on = (goes q j (Some h.0.0)).1 h.1 in (on.0, rw ((jumps_to sb j h.0.0).1 h.0.1) on.1)),
  )
  may_flow (Switches low high table) j =
      let all = entries_point segment q table (cases low high) in
      (λ h. all.0 ((cases_is table (cases low high) h.0 h.1).0), λ h. (cases_made table (cases low high), rw (all.1 h) refl))
  may_flow Ends j = (λ h. tt, λ h. (ends_at None, refl))

  -- ---- where a flow leads

  -- to the target, where P says what the target is
  jump_leads : {P : Type 0} (r : Result ℕ OpFault) (t : ℕ) (o : Onward) → (r ≡ Ok t) ↔ P → (r >>= λ u. Ok (ends_at (Some u))) ≡ Ok o
      → LeadsTo segment o t ↔ P
  jump_leads r t o to e = grind arith

  -- to the target or to the next offset
  branch_leads : {P : Type 0} (j : ℕ) (r : Result ℕ OpFault) (t : ℕ) (o : Onward) → (r ≡ Ok t) ↔ P
      → (r >>= λ u. goes_on q j (Some u)) ≡ Ok o → LeadsTo segment o t ↔ (P ⊎ ((t ≡ j) × LiesIn q t))
  branch_leads j r t o to e = grind (arith, nat_tests)

  -- to the entries of a case table or to the UJP before it
  cases_lead : (low high : ℤ) (table t : ℕ) → entries_in segment q table (cases low high) ≡ true
      → LeadsTo segment (cases_made table (cases low high)) t ↔ Leads segment q (Switches low high table) 0 t
  cases_lead low high table t e = (
    elim [
      | inl h ↦ inl (cc)
      | inr (inl h) ↦ absurd (cc)
      | inr (inr h) ↦ let to = (entries_point segment q table (cases low high)).0 e h.0 h.1 in inr (h.0, h.1, omega (arith, to.1, h.2))
    ],
    elim [ inl h ↦ inl (ap Some (sym h)) | inr h ↦ inr (inr (h.0, h.1, h.2.1)) ],
  )

  -- a flow leads where the rules say
  pub flow_leads : (flow : Flow) (j t : ℕ) (o : Onward) → flows_to segment q flow j ≡ Ok o → LeadsTo segment o t ↔ Leads segment q flow j t
  flow_leads On j t o e = grind (arith, nat_tests)
  flow_leads (Jumps sb) j t o e = jump_leads _ t o (jumps_to sb j t) e
  flow_leads (Branches sb) j t o e = branch_leads j _ t o (jumps_to sb j t) e
  flow_leads (Switches low high table) j t o e =
      let h = cases_is table (cases low high) o e in
      rw (← h.1) (cases_lead low high table t h.0)
  flow_leads Ends j t o e = let same : ends_at None ≡ o = cc in rw (← same) (λ l. grind arith, λ l. absurd l)

  -- ---- the next offset

  -- a flow that goes on leads to the next offset
  pub next_led : (flow : Flow) (j : ℕ) (o : Onward) → HasNextBy flow → flows_to segment q flow j ≡ Ok o → LeadsTo segment o j
  next_led On j o has e = inl (grind (arith, nat_tests))
  next_led (Branches sb) j o has e = let b = bind_ok (jump_to segment q sb j) _ o e in inl (grind (arith, nat_tests, b.2))
  next_led other j o has e = absurd has
