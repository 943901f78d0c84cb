-- The same instruction in twin states has twin effects.
use Rattle.std.proofs.Common.{◌≡◌, ℕ, ◌+◌, ◌-◌, ◌≤◌, ◌%◌, ◌==◌, if◌then◌else◌, Bool, true, false, Option, Some, None, refl, arith}
use Rattle.pcode_file.specs.declared.file.Proc.{Proc}
use Rattle.pcode_file.specs.Parts.{Parts}
use Rattle.pcode_ops.specs.declared.instr.Instr.{Instr}
use Rattle.pcode_ops.specs.declared.instr.Instr.TheVariants.{Lod, Str, Lda, Ujp, Fjp, Efj, Nfj, Xjp, Clp, Cgp, Cip, Csp, Rnp, Rbp, Nop}
use Rattle.pcode_ops.specs.declared.instr.StandardProcedure.{StandardProcedure}
use Rattle.pcode_ops.specs.declared.instr.StandardProcedure.TheVariants.{IoCheck, UnitRead, UnitWrite, IoResult, Halt}
use Rattle.pcode_frames.specs.declared.frame.Frame.{Frame}
use Rattle.pcode_machine.specs.declared.turn.Direction.{Direction}
use Rattle.pcode_machine.specs.Calls.{frame_up, link_outward}
use Rattle.pcode_machine.specs.declared.errors.ExecutionError.TheVariants.{NoUnit}
use Rattle.pcode_machine.specs.Configuration.{State}
use Rattle.pcode_machine.specs.Loads.{address_of}
use Rattle.pcode_machine.specs.Effects.{Effect, Push, Load, Store, Go, Branch, BranchByTwo, Call, Return, Begin, Fail, Finish, given, calling, effect_of}
use Rattle.pcode_frozen.specs.Twins.{PlacePairs, IsPlain, GoesOn, AreCallees, AreLevel, SameInstruction, Plain, Jumps, IfFalse, IfNotEqual, IfEqual, Cases, Local, Global, Intermediate, Finishes, Returns}
use Rattle.pcode_frozen.specs.States.{AreTwinFrames}
use Rattle.pcode_frozen.proofs.Frames.{base_of, link_ups, frames_up}
use Rattle.pcode_frozen.proofs.Effects.{IsLocal}

-- the effects of the same instruction
pub data TwinEffects (q : Parts) (K : PlacePairs) (n m j l : ℕ) (f g : Frame)
    (x y : Effect) : Type 0 where
  Locally : y ≡ x → IsLocal x → GoesOn q K n j m l → TwinEffects q K n m j l f g x y
  Going : (a b : ℕ) → x ≡ Go a → y ≡ Go b → GoesOn q K n a m b → TwinEffects q K n m j l f g x y
  Branching : (to on : ℕ → ℕ) → x ≡ Branch to → y ≡ Branch on
      → ((v : ℕ) → GoesOn q K n (to v) m (on v))
      → TwinEffects q K n m j l f g x y
  BranchingByTwo : (to on : ℕ → ℕ → ℕ) → x ≡ BranchByTwo to → y ≡ BranchByTwo on
      → ((v w : ℕ) → GoesOn q K n (to v w) m (on v w)) → TwinEffects q K n m j l f g x y
  Calling : (a b link : ℕ) (callee other : Proc) → x ≡ Call a callee link → y ≡ Call b other link
      → callee.params ≡ other.params → callee.vars ≡ other.vars
      → GoesOn q K a callee.enter b other.enter
      → GoesOn q K n j m l → TwinEffects q K n m j l f g x y
  Returning : (words : ℕ) → x ≡ Return words f → y ≡ Return words g → 2 ≤ n
      → TwinEffects q K n m j l f g x y
  Finishing : x ≡ Finish → y ≡ Finish → TwinEffects q K n m j l f g x y
  Beginning : (direction : Direction) → x ≡ Begin direction → y ≡ Begin direction
      → GoesOn q K n j m l
      → TwinEffects q K n m j l f g x y

-- by a frame's base
by_base : (o o2 : Option Frame) (x : ℕ → Effect) → base_of o ≡ base_of o2
    → given o2 (λ (f : Frame). x f.base) ≡ given o (λ (f : Frame). x f.base)
by_base None None x e = refl
by_base None (Some g) x e = absurd cc
by_base (Some f) None x e = absurd cc
by_base (Some f) (Some g) x e = (let same : g.base ≡ f.base = cc in rw same refl)

local_given : (o : Option Frame) (x : ℕ → Effect) → ((b : ℕ) → IsLocal (x b))
    → IsLocal (given o (λ (f : Frame). x f.base))
local_given None x h = tt
local_given (Some f) x h = h f.base

either_on : (q : Parts) (K : PlacePairs) (n m : ℕ) (c : Bool) (a b a2 b2 : ℕ) → GoesOn q K n a m a2
    → GoesOn q K n b m b2
    → GoesOn q K n (if c then a else b) m (if c then a2 else b2)
either_on q K n m true a b a2 b2 h k = h
either_on q K n m false a b a2 b2 h k = k

module _ (q : Parts) (K : PlacePairs) (f g : Frame) (j l : ℕ) where
  abbrev Twin : Effect → Effect → Type 0
  Twin x y = TwinEffects q K f.procedure g.procedure j l f g x y

  abbrev On : Type 0
  On = GoesOn q K f.procedure j g.procedure l

  either_twin : (b : Bool) → On
      → Twin (if b then Go j else Fail NoUnit) (if b then Go l else Fail NoUnit)
  either_twin true on = Going j l refl refl on
  either_twin false on = Locally refl tt on

module _ (p q : Parts) (K : PlacePairs) (s t : State) (f g : Frame) (j l : ℕ)
    (frames : AreTwinFrames q K s.frames t.frames)
    (base : g.base ≡ f.base) (io : t.io_result ≡ s.io_result) where
  by_frame_up : (levels : ℕ) (x : ℕ → Effect) → ((b : ℕ) → IsLocal (x b))
      → GoesOn q K f.procedure j g.procedure l
      → TwinEffects q K f.procedure g.procedure j l f g
      (given (frame_up s.frames levels) (λ (h : Frame). x h.base))
      (given (frame_up t.frames levels) (λ (h : Frame). x h.base))
  by_frame_up levels x local on =
      Locally (by_base _ _ x (frames_up frames levels)) (local_given _ x local) on

  standard_twin : (c : StandardProcedure) → GoesOn q K f.procedure j g.procedure l
      → TwinEffects q K f.procedure g.procedure j l f g (effect_of p f (Csp c) j s)
      (effect_of q g (Csp c) l t)
  standard_twin IoCheck on = rw io (either_twin q K f g j l (s.io_result == 0) on)
  standard_twin UnitRead on = Beginning _ refl refl on
  standard_twin UnitWrite on = Beginning _ refl refl on
  standard_twin IoResult on = rw io (Locally refl tt on)
  standard_twin Halt on = Locally refl tt on

  plain_twin : (a : Instr) → IsPlain a → GoesOn q K f.procedure j g.procedure l
      → TwinEffects q K f.procedure g.procedure j l f g (effect_of p f a j s) (effect_of q g a l t)
  plain_twin (Ujp sb) never on = absurd never
  plain_twin (Fjp sb) never on = absurd never
  plain_twin (Efj sb) never on = absurd never
  plain_twin (Nfj sb) never on = absurd never
  plain_twin (Xjp low high sb table) never on = absurd never
  plain_twin (Clp n) never on = absurd never
  plain_twin (Cgp n) never on = absurd never
  plain_twin (Cip n) never on = absurd never
  plain_twin (Rnp n) never on = absurd never
  plain_twin (Rbp n) never on = absurd never
  plain_twin (Lod levels n) is on = by_frame_up levels (λ b. Load (b + n)) (λ b. tt) on
  plain_twin (Str levels n) is on = by_frame_up levels (λ b. Store (b + n)) (λ b. tt) on
  plain_twin (Lda levels n) is on = by_frame_up levels (λ b. Push (address_of (b + n))) (λ b. tt) on
  plain_twin (Csp c) is on = standard_twin c on
  plain_twin Nop is on = Going j l refl refl on
  plain_twin a is on = Locally (grind (arith, base)) tt on

  -- a call
  call_twin : (c d : ℕ) (k : Option ℕ) → AreCallees p q K c d
      → GoesOn q K f.procedure j g.procedure l
      → TwinEffects q K f.procedure g.procedure j l f g (calling p c k) (calling q d k)
  call_twin c d None h on = rw (h.named, h.named_other) (Locally refl tt on)
  call_twin c d (Some link) h on =
      rw (h.named, h.named_other)
      (Calling c d link h.callee h.other refl refl h.params h.vars h.enters on)

  outward : (c d : ℕ) → AreCallees p q K c d → AreLevel p q f.procedure g.procedure
      → link_outward q g d t.frames ≡ link_outward p f c s.frames
  outward c d h k =
      let up = link_ups s.frames t.frames frames (k.caller.level + 1 - h.callee.level) in
      rw (h.named, h.named_other, k.named, k.named_other) (grind (arith, up, h.level, k.level))

  -- the same instruction
  pub twin_effects : (a b : Instr) → SameInstruction p q K f.procedure g.procedure a j b l
      → TwinEffects q K f.procedure g.procedure j l f g (effect_of p f a j s) (effect_of q g b l t)
  twin_effects a b (Plain is plain on) = rw is (plain_twin a plain on)
  twin_effects a b (Jumps sb by is is2 to) =
      rw (is, is2, to.leads, to.leads_other) (Going _ _ refl refl to.on)
  twin_effects a b (IfFalse sb by is is2 to on) =
      rw (is, is2, to.leads, to.leads_other)
      (Branching _ _ refl refl (λ v. either_on q K f.procedure g.procedure
      (v % 2 == 0) _ _ _ _ to.on on))
  twin_effects a b (IfNotEqual sb by is is2 to on) =
      rw (is, is2, to.leads, to.leads_other)
      (BranchingByTwo _ _ refl refl
      (λ v w. either_on q K f.procedure g.procedure (v == w) _ _ _ _ on to.on))
  twin_effects a b (IfEqual sb by is is2 to on) =
      rw (is, is2, to.leads, to.leads_other)
      (BranchingByTwo _ _ refl refl
      (λ v w. either_on q K f.procedure g.procedure (v == w) _ _ _ _ to.on on))
  twin_effects a b (Cases low high sb table low2 high2 by other is is2 on) =
      rw (is, is2) (Branching _ _ refl refl on)
  twin_effects a b (Local c d is is2 h on) =
      let up = link_ups s.frames t.frames frames 0 in rw (is, is2, up) (call_twin c d _ h on)
  twin_effects a b (Global c d is is2 h on) = rw (is, is2) (call_twin c d (Some 0) h on)
  twin_effects a b (Intermediate c d is is2 h k on) =
      rw (is, is2, outward c d h k) (call_twin c d _ h on)
  twin_effects a b (Finishes v w is is2) = rw (is, is2) (Finishing refl refl)
  twin_effects a b (Returns words is is2 low) = rw (is, is2) (Returning words refl refl low)
