-- Twin effects lead from twin states to twin states, or fail alike.
use Rattle.std.specs.Prelude.{nat_lt}
use Rattle.std.proofs.Common.{◌≡◌, ℕ, suc, ◌+◌, ◌-◌, ◌≤◌, if◌then◌else◌, Bool, true, false, List, [], ◌∷◌, ◌++◌, length, take, drop, Option, Some, None, Result, Ok, Err, slice_get, refl, sym, arith}
use Rattle.std.proofs.lemmas.Bool.Decides.{nat_tests}
use Rattle.std.proofs.lemmas.List.{length_push, length-take-le}
use Rattle.std.proofs.lemmas.Option.{slice_get_within}
use Rattle.base.proofs.Lists.{get_there, get_last, get_in_front}
use Rattle.pcode_file.specs.declared.file.Proc.{Proc}
use Rattle.pcode_file.specs.Parts.{Parts}
use Rattle.pcode_frames.specs.declared.frame.Frame.{Frame}
use Rattle.pcode_frames.specs.declared.limits.TheConstants.{STACK_WORDS}
use Rattle.pcode_frames.specs.Frames.{current_of, space, is_full, Space, frame_of}
use Rattle.pcode_frames.specs.declared.halt.Halt.TheVariants.{Empty, Overflow, BadMemory}
use Rattle.pcode_machine.specs.Calls.{with_parts}
use Rattle.pcode_machine.specs.declared.turn.Stop.{Stop}
use Rattle.pcode_machine.specs.declared.turn.Direction.{Direction}
use Rattle.pcode_machine.specs.declared.turn.Transfer.{Transfer}
use Rattle.pcode_machine.specs.Configuration.{State}
use Rattle.pcode_machine.specs.Transfers.{begun_transfer, is_console}
use Rattle.pcode_machine.specs.Effects.{Effect, Branch, BranchByTwo, Call, Return, Begin}
use Rattle.pcode_machine.specs.Execute.{made}
use Rattle.pcode_frozen.specs.Twins.{PlacePairs, GoesOn}
use Rattle.pcode_frozen.specs.States.{AreTwinFrames, AreTwinTransfers, AreTwins}
use Rattle.pcode_frozen.proofs.Frames.{called, returned}
use Rattle.pcode_frozen.proofs.Effects.{shifted, shifted_result, local_shifted, IsKept, local_kept}
use Rattle.pcode_frozen.proofs.TwinEffects.{TwinEffects, Locally, Going, Branching, BranchingByTwo, Calling, Returning, Finishing, Beginning}

abbrev pub TwinResults : Parts → PlacePairs → Option (Result State Stop)
    → Option (Result State Stop) → Type 0
TwinResults q K None None = Unit {0}
TwinResults q K (Some (Err e)) (Some (Err h)) = e ≡ h
TwinResults q K (Some (Ok s)) (Some (Ok t)) = AreTwins q K s t
TwinResults q K _ _ = ⊥

module _ (q : Parts) (K : PlacePairs) (s : State) (gs : List Frame) (k : ℕ) (f g : Frame)
    (frames : AreTwinFrames q K s.frames gs)
    (cf : current_of s.frames ≡ Some f) (cg : current_of gs ≡ Some g)
    (idle : s.transfer ≡ None) where
  -- the same frames, and on in the same procedure
  on_twins : (words stack : List ℕ) (io j l : ℕ) → GoesOn q K f.procedure j g.procedure l
      → AreTwins q K (record s { words = words; stack = stack; io_result = io; next = j })
      (record s { words = words; stack = stack; io_result = io; frames = gs; next = l })
  on_twins words stack io j l on = record {
    words = refl;
    stack = refl;
    io_result = refl;
    frames = frames;
    f = f;
    g = g;
    current = cf;
    other = cg;
    transfer = rw idle tt;
    next = on;
  }

  local_twins : (j l : ℕ) (r : Option (Result State Stop)) → IsKept s j r
      → GoesOn q K f.procedure j g.procedure l
      → TwinResults q K r (shifted_result gs l r)
  local_twins j l None kept on = tt
  local_twins j l (Some (Err e)) kept on = refl
  local_twins j l (Some (Ok t)) kept on = record {
    words = refl;
    stack = refl;
    io_result = refl;
    frames = rw kept.0 frames;
    f = f;
    g = g;
    current = rw kept.0 cf;
    other = cg;
    transfer = rw (kept.2, idle) tt;
    next = rw kept.1 on;
  }

  branch_twins : (to on : ℕ → ℕ) (stack : List ℕ) → s.stack ≡ stack
      → ((v : ℕ) → GoesOn q K f.procedure (to v) g.procedure (on v))
      → (j l : ℕ) → TwinResults q K (made (Branch to) j s) (made (Branch on) l (shifted gs k s))
  branch_twins to on [] e h j l = rw e refl
  branch_twins to on (v ∷ rest) e h j l =
      rw e (on_twins s.words rest s.io_result (to v) (on v) (h v))

  branch_two_twins : (to on : ℕ → ℕ → ℕ) (stack : List ℕ) → s.stack ≡ stack
      → ((v w : ℕ) → GoesOn q K f.procedure (to v w) g.procedure (on v w))
      → (j l : ℕ) → TwinResults q K (made (BranchByTwo to) j s)
      (made (BranchByTwo on) l (shifted gs k s))
  branch_two_twins to on [] e h j l = rw e refl
  branch_two_twins to on (v ∷ []) e h j l = rw e refl
  branch_two_twins to on (v ∷ w ∷ rest) e h j l =
      rw e (on_twins s.words rest s.io_result (to w v) (on w v) (h w v))

  -- ---- transfers

  begun_when : (b c d : Bool) (t u : Transfer) → (u ≡ record t { at = u.at })
      → K f.procedure t.at g.procedure u.at
      → AreTwinTransfers K f.procedure g.procedure
      (if b then if c then if d then Some t else None else None else None)
      (if b then if c then if d then Some u else None else None else None)
  begun_when false c d t u is here = tt
  begun_when true false d t u is here = tt
  begun_when true true false t u is here = tt
  begun_when true true true t u is here = (is, here)

  begun_twins : (direction : Direction) (unit base index len : ℕ)
      → K f.procedure s.next g.procedure k
      → AreTwinTransfers K f.procedure g.procedure
      (begun_transfer direction unit base index len s.next)
      (begun_transfer direction unit base index len k)
  begun_twins direction unit base index len here =
      begun_when (is_console unit) (nat_lt 0 len) (nat_lt len 32768) _ _ refl here

  begin_twins : (direction : Direction) (stack : List ℕ) → s.stack ≡ stack → (j l : ℕ)
      → K f.procedure s.next g.procedure k
      → GoesOn q K f.procedure j g.procedure l
      → TwinResults q K (made (Begin direction) j s) (made (Begin direction) l (shifted gs k s))
  begin_twins d [] e j l here on = rw e refl
  begin_twins d (a ∷ []) e j l here on = rw e refl
  begin_twins d (a ∷ a2 ∷ []) e j l here on = rw e refl
  begin_twins d (a ∷ a2 ∷ a3 ∷ []) e j l here on = rw e refl
  begin_twins d (a ∷ a2 ∷ a3 ∷ a4 ∷ []) e j l here on = rw e refl
  begin_twins d (a ∷ a2 ∷ a3 ∷ a4 ∷ a5 ∷ []) e j l here on = rw e refl
  begin_twins d (mode ∷ block ∷ len ∷ index ∷ base ∷ unit ∷ rest) e j l here on = rw e (record {
    words = refl;
    stack = refl;
    io_result = refl;
    frames = frames;
    f = f;
    g = g;
    current = cf;
    other = cg;
    transfer = begun_twins d unit base index len here;
    next = on;
  })

  -- ---- calls

  last_added : (fs : List Frame) (new : Frame) → current_of (fs ++ new ∷ []) ≡ Some new
  last_added fs new = grind (arith, length_push fs new, get_last fs new)

  full_same : (size : ℕ) → is_full (space s.words s.stack gs) size ≡ is_full
      (space s.words s.stack s.frames) size
  full_same size = let same = sym (frames.same) in rw same refl

  call_cases : (few full : Bool) (e e2 : ℕ) (x y : Space)
      → AreTwins q K (record s { words = x.words; stack = x.stack; frames = x.frames; next = e })
      (record s { words = y.words; stack = y.stack; frames = y.frames; next = e2 })
      → TwinResults q K (Some (with_parts e s
      (if few then Err Empty else (if full then Err Overflow else Ok x))))
      (Some (with_parts e2 (shifted gs k s)
      (if few then Err Empty else (if full then Err Overflow else Ok y))))
  call_cases true full e e2 x y h = refl
  call_cases false true e e2 x y h = refl
  call_cases false false e e2 x y h = h

  ret_cases : (bad full : Bool) (e e2 : ℕ) (x y : Space)
      → AreTwins q K (record s { words = x.words; stack = x.stack; frames = x.frames; next = e })
      (record s { words = y.words; stack = y.stack; frames = y.frames; next = e2 })
      → TwinResults q K (Some (with_parts e s
      (if bad then Err BadMemory else (if full then Err Overflow else Ok x))))
      (Some (with_parts e2 (shifted gs k s)
      (if bad then Err BadMemory else (if full then Err Overflow else Ok y))))
  ret_cases true full e e2 x y h = refl
  ret_cases false true e e2 x y h = refl
  ret_cases false false e e2 x y h = h

  call_twins : (a b link : ℕ) (callee other : Proc) (j l : ℕ) → callee.params ≡ other.params
      → callee.vars ≡ other.vars
      → GoesOn q K a callee.enter b other.enter → GoesOn q K f.procedure j g.procedure l
      → TwinResults q K (made (Call a callee link) j s)
      (made (Call b other link) l (shifted gs k s))
  call_twins a b link callee other j l params vars enters on =
      let params2 : other.params ≡ callee.params = sym params in
      let vars2 : other.vars ≡ callee.vars = sym vars in
      let size = callee.params + callee.vars in
      let full : is_full (space s.words s.stack gs) size ≡ is_full
      (space s.words s.stack s.frames) size = full_same size in
      let new = frame_of (space s.words s.stack s.frames) a size link j in
      let new2 = frame_of (space s.words s.stack gs) b size link l in
      rw (params2, vars2, full) (call_cases (nat_lt (length s.stack) callee.params)
      (is_full (space s.words s.stack s.frames) size) callee.enter other.enter _ _ (record {
        words = refl;
        stack = refl;
        io_result = refl;
        frames = called frames new new2 f g cf cg refl refl refl on;
        f = new;
        g = new2;
        current = last_added s.frames new;
        other = last_added gs new2;
        transfer = rw idle tt;
        next = enters;
      }))

  -- ---- returns

  last_taken : (fs : List Frame) (b : Frame) → 2 ≤ length fs → slice_get fs (length fs - 2) ≡ Some b
      → current_of (take (length fs - 1) fs) ≡ Some b
  last_taken fs b two at = grind (arith, nat_tests, get_in_front, length-take-le)

  below_two : 2 ≤ f.procedure → 2 ≤ length s.frames
  below_two low = grind (arith, nat_tests, slice_get_within s.frames _ f cf, frames.main f)

  left_twins : (words : ℕ) (b b2 : Frame) (n : ℕ) → current_of (take n s.frames) ≡ Some b
      → current_of (take n gs) ≡ Some b2
      → GoesOn q K b.procedure f.back b2.procedure g.back
      → AreTwins q K (record s {
        words = take f.base s.words;
        stack = take words
            (drop f.base s.words) ++ s.stack;
        frames = take n s.frames;
        next = f.back;
      })
      (record s {
        words = take f.base s.words;
        stack = take words
            (drop f.base s.words) ++ s.stack;
        frames = take n gs;
        next = g.back;
      })
  left_twins words b b2 n current other back = record {
    words = refl;
    stack = refl;
    io_result = refl;
    frames = returned frames n;
    f = b;
    g = b2;
    current = current;
    other = other;
    transfer = rw idle tt;
    next = back;
  }

  return_twins : (words j l : ℕ) → 2 ≤ f.procedure
      → TwinResults q K (made (Return words f) j s) (made (Return words g) l (shifted gs k s))
  return_twins words j l low =
      let two = below_two low in
      let same = frames.same in
      let below = get_there s.frames (length s.frames - 2) (omega arith) in
      let below2 = get_there gs (length s.frames - 2) (omega (arith, same)) in
      let top : suc (length s.frames - 2) ≡ length s.frames - 1 = omega arith in
      let top2 : suc (length s.frames - 2) ≡ length gs - 1 = omega (arith, same) in
      let n2 : length gs - 1 ≡ length s.frames - 1 = omega (arith, same) in
      let m2 : length gs - 2 ≡ length s.frames - 2 = omega (arith, same) in
      let base : g.base ≡ f.base =
      sym ((frames.each (length s.frames - 1) f g cf (rw n2 at cg)).0) in
      let back = frames.backs (length s.frames - 2) below.0 below2.0 f g below.1 below2.1
      (rw top cf) (rw top2 cg) in
      let current = last_taken s.frames below.0 two below.1 in
      let other = last_taken gs below2.0 (omega (arith, same)) (rw m2 below2.1) in
      rw (base, n2) (ret_cases (nat_lt (length s.words) (f.base + words))
      (nat_lt STACK_WORDS (length s.stack + words)) f.back g.back _ _
      (left_twins words below.0 below2.0 (length s.frames - 1) current (rw n2 at other) back))

  -- ---- all

  pub effect_twins : (j l : ℕ) (x y : Effect) → TwinEffects q K f.procedure g.procedure j l f g x y
      → K f.procedure s.next g.procedure k
      → TwinResults q K (made x j s) (made y l (shifted gs k s))
  effect_twins j l x y (Locally is local on) here =
      rw (is, local_shifted x j l k gs s local) (local_twins j l _ (local_kept x j s local) on)
  effect_twins j l x y (Going a b is is2 on) here =
      rw (is, is2) (on_twins s.words s.stack s.io_result a b on)
  effect_twins j l x y (Branching to go is is2 on) here =
      rw (is, is2) (branch_twins to go _ refl on j l)
  effect_twins j l x y (BranchingByTwo to go is is2 on) here =
      rw (is, is2) (branch_two_twins to go _ refl on j l)
  effect_twins j l x y (Calling a b link callee other is is2 params vars enters on) here =
      rw (is, is2) (call_twins a b link callee other j l params vars enters on)
  effect_twins j l x y (Returning words is is2 low) here = rw (is, is2) (return_twins words j l low)
  effect_twins j l x y (Finishing is is2) here = rw (is, is2) refl
  effect_twins j l x y (Beginning d is is2 on) here =
      rw (is, is2) (begin_twins d _ refl j l here on)
