-- Why the counterexamples are no twins.
use Rattle.std.proofs.Common.{◌≡◌, ℕ, zero, suc, List, [], ◌∷◌, Some, Ok, slice_get, ℤ, refl, ap, arith, inl, inr}
use Rattle.std.specs.Prelude.{negsuc}
use Rattle.pcode_ops.specs.declared.instr.Instr.{Instr}
use Rattle.pcode_ops.specs.declared.instr.Instr.TheVariants.{Ujp, Nop}
use Rattle.pcode_ops.specs.Decoding.{instr_at, instr_of}
use Rattle.pcode_frozen.specs.declared.pairs.Pair.{Pair}
use Rattle.pcode_frozen.specs.Counterexamples.{itself, jumps}
use Rattle.pcode_frozen.specs.Twins.{listed, GoesOn, AreTargets, SameInstruction, SamePlace, Plain, Jumps, IfFalse, IfNotEqual, IfEqual, Cases, Local, Global, Intermediate, Finishes, Returns}

-- places that are paired with themselves
abbrev pairs : List Pair
pairs = itself 2 ∷ itself 3 ∷ itself 4 ∷ []

-- a pair of like offsets
of_pair : (x : Pair) (n i m k : ℕ)
    → Some x ≡ Some (record { procedure = n; offset = i; other = m; other_offset = k })
    → x.offset ≡ x.other_offset → i ≡ k
of_pair x n i m k e same =
    let y : Pair = record { procedure = n; offset = i; other = m; other_offset = k } in
    let is : x ≡ y = cc in
    let one : x.offset ≡ i = ap (λ (z : Pair). z.offset) is in
    let two : x.other_offset ≡ k = ap (λ (z : Pair). z.other_offset) is in
    cc

-- no other places are listed
same_offset : (n i m k at : ℕ)
    → slice_get pairs at ≡ Some (record { procedure = n; offset = i; other = m; other_offset = k })
    → i ≡ k
same_offset n i m k zero e = of_pair (itself 2) n i m k e refl
same_offset n i m k (suc zero) e = of_pair (itself 3) n i m k e refl
same_offset n i m k (suc (suc zero)) e = of_pair (itself 4) n i m k e refl
same_offset n i m k (suc (suc (suc at))) e = absurd cc

-- two places that are no pair
pub not_paired : (n m : ℕ) → listed pairs n 3 m 2 → ⊥
not_paired n m (at, e) = let same = same_offset n 3 m 2 at e in omega (arith, same)

-- equal values in an option
one_value : {a b : ℕ} → Some a ≡ Some b → b ≡ a
one_value e = cc

-- equal jumps
one_jump : {x : Instr} {a b : ℤ} → x ≡ Ujp a → x ≡ Ujp b → b ≡ a
one_jump e e2 = cc

-- a jump is no NOP
not_nop : (sb : ℤ) → Ujp sb ≡ Nop → ⊥
not_nop sb e = absurd cc

-- what is decoded at an offset is one instruction
one_decoded : (code : List ℕ) (i j l : ℕ) (a b : Instr) → instr_at code i ≡ Ok (a, j)
    → instr_at code i ≡ Ok (b, l) → (a ≡ b) × (j ≡ l)
one_decoded code i j l a b here there =
    let found : Instr × ℕ = (a, j) in
    let other : Instr × ℕ = (b, l) in
    let same : found ≡ other = cc in
    (ap (λ (x : Instr × ℕ). x.0) same, ap (λ (x : Instr × ℕ). x.1) same)

-- the jump of each of the two programs
jump_there : (slot : ℕ) → instr_at (jumps slot).segment 4 ≡ Ok (Ujp (negsuc 9), 6)
unfolding instr_of
jump_there slot = refl

-- and where it may lead
nop_there : instr_at (jumps 4).segment 2 ≡ Ok (Nop, 3)
unfolding instr_of
nop_there = refl

-- nor does the other program go on from there by a UJP
not_on : (i k : ℕ) → i ≡ 3 → k ≡ 2 → GoesOn (jumps 4) (listed pairs) 1 i 1 k → ⊥
not_on i k e e2 (inl here) = not_paired 1 1 (rw (e, e2) at here)
not_on i k e e2 (inr (sb, l, t, at, leads, here)) =
    let is = one_decoded (jumps 4).segment 2 l 3 (Ujp sb) Nop (rw e2 at at) nop_there in
    not_nop sb is.0

-- the jumps lead to those places
not_targets : (sb by : ℤ) (j l : ℕ) → sb ≡ negsuc 9 → by ≡ negsuc 9
    → AreTargets (jumps 3) (jumps 4) (listed pairs) 1 1 sb j by l → ⊥
not_targets sb by j l e e2 t =
    let one : Some 3 ≡ Some t.target = rw e at t.leads in
    let two : Some 2 ≡ Some t.other = rw e2 at t.leads_other in
    let first : t.target ≡ 3 = one_value one in
    let second : t.other ≡ 2 = one_value two in
    not_on t.target t.other first second t.on

-- so the instructions are not the same
not_same : (a b : Instr) (j l : ℕ) → a ≡ Ujp (negsuc 9) → b ≡ Ujp (negsuc 9)
    → SameInstruction (jumps 3) (jumps 4) (listed pairs) 1 1 a j b l → ⊥
not_same a b j l ea eb (Plain e plain on) = rw ea at plain
not_same a b j l ea eb (Jumps sb by e e2 t) =
    not_targets sb by j l (one_jump ea e) (one_jump eb e2) t
not_same a b j l ea eb (IfFalse sb by e e2 t on) = absurd (cc (ea, e))
not_same a b j l ea eb (IfNotEqual sb by e e2 t on) = absurd (cc (ea, e))
not_same a b j l ea eb (IfEqual sb by e e2 t on) = absurd (cc (ea, e))
not_same a b j l ea eb (Cases low high sb table low2 high2 by other e e2 on) =
    absurd (cc (ea, e))
not_same a b j l ea eb (Local c d e e2 h on) = absurd (cc (ea, e))
not_same a b j l ea eb (Global c d e e2 h on) = absurd (cc (ea, e))
not_same a b j l ea eb (Intermediate c d e e2 h k on) = absurd (cc (ea, e))
not_same a b j l ea eb (Finishes v w e e2) = absurd (cc (ea, e))
not_same a b j l ea eb (Returns words e e2 low) = absurd (cc (ea, e))

-- the places of the two jumps are no pair
pub other_target : SamePlace (jumps 3) (jumps 4) (listed pairs) 1 4 1 4 → ⊥
other_target h =
    let one = one_decoded (jumps 3).segment 4 h.after 6 h.instr (Ujp (negsuc 9)) h.here
    (jump_there 3) in
    let two = one_decoded (jumps 4).segment 4 h.after_other 6 h.other (Ujp (negsuc 9)) h.there
    (jump_there 4) in
    not_same h.instr h.other h.after h.after_other one.0 two.0 h.same
