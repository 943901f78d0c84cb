-- The first fault of an offset, as a function and as a relation.
use Rattle.std.proofs.Common.{◌≡◌, ◌↔◌, ◌⊎◌, ℕ, zero, suc, ◌+◌, ◌*◌, ◌<◌, false, List, [], ◌∷◌, Option, Some, None, Result, Ok, Err, inl, inr, refl, arith, ℤ, unsigned_abs, ◌-◌}
use Rattle.std.proofs.lemmas.Bool.Decides.{nat_tests}
use Rattle.base.specs.Steps.{◌>>=◌}
use Rattle.pcode_file.specs.declared.file.Proc.{Proc}
use Rattle.std.proofs.lemmas.Bool.{and_cases, cond_both, iff_false, false_from_ne_true}
use Rattle.pcode_file.specs.InFile.{AreProcs}
use Rattle.pcode_file.specs.Parts.{Parts}
use Rattle.pcode_ops.specs.declared.instr.Instr.{Instr}
use Rattle.pcode_ops.specs.declared.loading.Onward.{Onward}
use Rattle.pcode_ops.specs.declared.fault.OpFault.{OpFault}
use Rattle.pcode_ops.specs.declared.fault.OpFault.TheVariants as fault
use Rattle.pcode_ops.specs.At.{cases}
use Rattle.pcode_ops.specs.Decoding.{instr_at}
use Rattle.pcode_ops.specs.Loading.{is_in, owner, legal, look, onward, flow_of, IsFaulty, IsFine, LeadsTo, jump_to, entries_in, leads_in, goes_on, ends_at, Flow, On, Jumps, Branches, Switches, Ends, flows_to, cases_to}
use Rattle.pcode_ops.specs.Rules.{LiesIn, PointsTo, Leads}
use Rattle.pcode_ops.specs.Faults.{Owns, IsOutside, StandsAt, HasFirstFault, outside, unread, not_held, leads_out, part_code, MayNotHold, HasNoTarget, MayNotFlow}
use Rattle.pcode_ops.proofs.Apart.{lies_in, owned}
use Rattle.pcode_ops.proofs.Entries.{pointing, entries_point}
use Rattle.pcode_ops.proofs.DecodedIsAt.{decoded_at, at_decoded}
use Rattle.pcode_ops.proofs.FineOffsets.{owner_is, fine_looked}
use Rattle.pcode_ops.proofs.Ruling.{jumps_to, may_hold, may_flow, flow_leads}
use Rattle.pcode_ops.proofs.Unread.{bytes_unread, not_read}
use Rattle.pcode_ops.specs.Jumps.{pointed_by}

-- ---- the owner

-- an offset has no owner where no procedure has it in its part
pub none_owns : (procs : List Proc) (i : ℕ) (f : OpFault) → (owner procs i ≡ Err f) ↔ ((f ≡ fault.Cut) × IsOutside procs i)
none_owns [] i f = (λ e. (cc, elim [ zero ↦ λ q named. absurd cc | suc k ↦ λ q named. absurd cc ]), λ h. rw h.0 refl)
none_owns (d ∷ ds) i f =
    let rest = none_owns ds i f in (
      cond_both (is_in d i) (Ok d) (owner ds i) (λ r. r ≡ Err f → (f ≡ fault.Cut) × IsOutside (d ∷ ds) i)
          (λ t h. absurd cc)
          (λ t h. (
            (rest.0 h).0,
            elim [
              | zero ↦ λ q named. absurd cc
              | suc zero ↦ λ q named. (let same : d ≡ q = cc in iff_false (lies_in q i) (rw same at t))
              | suc (suc k) ↦ (rest.0 h).1 (suc k)
            ],
          )),
      λ h. rw (false_from_ne_true (is_in d i) (λ t. h.1 1 d refl ((lies_in d i).0 t))) (rest.1 (
        h.0,
        elim [ zero ↦ λ q named. absurd cc | suc k ↦ h.1 (suc (suc k)) ],
      )),
    )

-- the owner is the procedure in whose part the offset lies
pub one_owns : (p : Parts) (i : ℕ) (q : Proc) → AreProcs p.segment p.procs → (owner p.procs i ≡ Ok q) ↔ Owns p.procs i q
one_owns p i q procs = (
  λ e. (let h = owner_is p.procs i q e in record { number = suc h.0; named = h.1; within = (lies_in q i).0 h.2 }),
  λ h. owned p h.number i q procs h.named ((lies_in q i).1 h.within),
)

-- ---- what a procedure may hold

pub holds_not : (procs : List Proc) (q : Proc) (instr : Instr) (f : OpFault) → (legal procs q instr ≡ Err f) ↔ MayNotHold procs q instr f
holds_not procs q instr f = grind (arith, nat_tests)

-- ---- where it leads

module _ (segment : List ℕ) (q : Proc) where
  -- a jump that fails has no target
  no_target : (sb : ℤ) (j : ℕ) (f : OpFault) → (jump_to segment q sb j ≡ Err f) ↔ ((f ≡ fault.JumpRange) × HasNoTarget segment q sb j)
  no_target sb j f = (
    λ e. (grind arith, λ t to. absurd (cc (e, (jumps_to segment q sb j t).1 to))),
    λ h. (let none : (t : ℕ) → ¬ (jump_to segment q sb j ≡ Ok t) = λ t to. h.1 t ((jumps_to segment q sb j t).0 to) in
        grind (arith, none (j + unsigned_abs sb), none (pointed_by segment (q.jtab - unsigned_abs sb)))),
  )

  -- the next offset lies outside
  next_outside : (j : ℕ) (target : Option ℕ) (f : OpFault) → (goes_on q j target ≡ Err f) ↔ ((f ≡ fault.Cut) × ¬ (LiesIn q j))
  next_outside j target f = grind (arith, nat_tests)

  -- an entry of a case table leads outside
  entry_by : (table n : ℕ) → entries_in segment q table n ≡ false → (k : ℕ) × (k < n) × (leads_in segment q (table + 2 * k) ≡ false)
  unfolding entries_in
  entry_by table zero e = absurd cc
  entry_by table (suc n) e = elim (and_cases (leads_in segment q table) (entries_in segment q (table + 2) n) e) [
    | inl here ↦ (0, omega arith, grind (arith, here))
    | inr later ↦ let rest = entry_by (table + 2) n later in (suc rest.0, omega (arith, rest.1), grind (arith, rest.2))
  ]

  -- a case jump fails where one of its entries leads nowhere
  no_entry : (table n : ℕ) (f : OpFault) → (cases_to segment q table n ≡ Err f)
      ↔ ((f ≡ fault.JumpRange) × (k : ℕ) × (k < n) × ((t : ℕ) → ¬ (PointsTo segment q (table + 2 * k) t)))
  no_entry table n f = (
    λ e. (let h = entry_by table n (grind arith) in
        (grind arith, h.0, h.1, λ t to. iff_false (pointing segment q (table + 2 * h.0)) h.2 (t, to))),
    λ h. rw (
      h.0,
      false_from_ne_true (entries_in segment q table n) (λ e.
          let to = (entries_point segment q table n).0 e h.1 h.2 in h.3 to.0 to.1),
    ) refl,
  )

  -- ---- flows

  -- where P says when a part of a flow fails, and T what the target of a jump is
  jump_err : {P : Type 0} (r : Result ℕ OpFault) (f : OpFault) → (r ≡ Err f) ↔ P → ((r >>= λ t. Ok (ends_at (Some t))) ≡ Err f) ↔ P
  jump_err r f fails = grind arith

  branch_err : {P : Type 0} {T : ℕ → Type 0} (j : ℕ) (r : Result ℕ OpFault) (f : OpFault) → (r ≡ Err f) ↔ P
      → ((t : ℕ) → (r ≡ Ok t) ↔ T t) → ((r >>= λ t. goes_on q j (Some t)) ≡ Err f)
      ↔ (P ⊎ ((f ≡ fault.Cut) × ((t : ℕ) × T t) × ¬ (LiesIn q j)))
  branch_err j (Ok t) f fails to = let there = (to t).0 refl in grind (arith, nat_tests, next_outside j (Some t) f)
  branch_err j (Err g) f fails to = grind (arith, nat_tests, to)

  pub flows_out : (flow : Flow) (j : ℕ) (f : OpFault) → (flows_to segment q flow j ≡ Err f) ↔ MayNotFlow segment q flow j f
  flows_out On j f = next_outside j None f
  flows_out (Jumps sb) j f = jump_err _ f (no_target sb j f)
  flows_out (Branches sb) j f = branch_err j _ f (no_target sb j f) (jumps_to segment q sb j)
  flows_out (Switches low high table) j f = no_entry table (cases low high) f
  flows_out Ends j f = (λ e. absurd cc, λ h. absurd h)

-- ---- all checks

-- a step fails, or the next one
bind_err : {A B : Type 0} (r : Result A OpFault) (f : A → Result B OpFault) (e : OpFault) → (r >>= f) ≡ Err e
    → (r ≡ Err e) ⊎ ((x : A) × (r ≡ Ok x) × (f x ≡ Err e))
bind_err r f e h = grind (arith, nat_tests)

module _ (p : Parts) (i : ℕ) (procs : AreProcs p.segment p.procs) where
  pub first_fault : (f : OpFault) → IsFaulty p i f → HasFirstFault p i f
  unfolding look
  first_fault f e = elim (bind_err (owner p.procs i) _ f e) [
    | inl none ↦ let h = (none_owns p.procs i f).0 none in outside h.1 h.0
    | inr (q, owned, e) ↦
        let own = (one_owns p i q procs).0 owned in
        elim (bind_err (instr_at (part_code p q) i) _ f e) [
          | inl bytes ↦ unread q own (bytes_unread (part_code p q) i f bytes)
          | inr ((instr, j), decoded, e) ↦
              let at = decoded_at (part_code p q) i instr j decoded in
              elim (bind_err (legal p.procs q instr) _ f e) [
                | inl not ↦ not_held q instr j own at ((holds_not p.procs q instr f).0 not)
                | inr (_, held, e) ↦
                    leads_out q instr j own at ((may_hold p.procs q instr).0 held) ((flows_out p.segment q (flow_of instr) j f).0 e)
              ]
        ]
  ]

  pub is_faulty : (f : OpFault) → HasFirstFault p i f → IsFaulty p i f
  unfolding look
  is_faulty f (outside none is) = rw ((none_owns p.procs i f).1 (is, none)) refl
  is_faulty f (unread q own bytes) = rw ((one_owns p i q procs).1 own, not_read (part_code p q) i f bytes) refl
  is_faulty f (not_held q instr j own at not) =
      rw ((one_owns p i q procs).1 own, at_decoded (part_code p q) i instr j at, (holds_not p.procs q instr f).1 not) refl
  is_faulty f (leads_out q instr j own at held out) =
      grind (arith, nat_tests, one_owns p i q procs, at_decoded (part_code p q) i instr j at, flows_out p.segment q (flow_of instr) j f)

  -- ---- without fault

  stands_looked : (q : Proc) (instr : Instr) (j : ℕ) → StandsAt p i q instr j
      → (o : Onward) × (look p i ≡ Ok o) × (onward p.segment q instr j ≡ Ok o)
  unfolding look
  stands_looked q instr j h =
      grind (arith, nat_tests, may_flow p.segment q (flow_of instr) j, one_owns p i q procs, at_decoded (part_code p q) i instr j h.at)

  pub fine_stands : IsFine p i ↔ ((q : Proc) × (instr : Instr) × (j : ℕ) × StandsAt p i q instr j)
  fine_stands = (
    λ fine. (let l = fine_looked p i fine in (
      l.q,
      l.instr,
      l.next,
      record {
        owner = (one_owns p i l.q procs).0 l.owned;
        at = decoded_at (part_code p l.q) i l.instr l.next l.decoded;
        held = (may_hold p.procs l.q l.instr).0 l.legal;
        flows = (may_flow p.segment l.q (flow_of l.instr) l.next).0 (l.leads, l.onward);
      },
    )),
    λ h f e. absurd (cc (e, (stands_looked h.0 h.1 h.2 h.3).1)),
  )

  pub stands_leads : (q : Proc) (instr : Instr) (j : ℕ) (o : Onward) → StandsAt p i q instr j → look p i ≡ Ok o
      → (t : ℕ) → LeadsTo p.segment o t ↔ Leads p.segment q (flow_of instr) j t
  stands_leads q instr j o h e t = let l = stands_looked q instr j h in flow_leads p.segment q (flow_of instr) j t o (cc (e, l.1, l.2))

  pub one_fault : (f g : OpFault) → HasFirstFault p i f → HasFirstFault p i g → f ≡ g
  one_fault f g a b = cc (is_faulty f a, is_faulty g b)
