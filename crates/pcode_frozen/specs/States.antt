-- States of two twin programs: the same but for procedures and offsets.
use Rattle.std.specs.Prelude.{◌≡◌, ℕ, suc, ◌+◌, List, ◌++◌, length, Option, Some, None, slice_get}
use Rattle.pcode_file.specs.Parts.{Parts}
use Rattle.pcode_frames.specs.declared.frame.Frame.{Frame}
use Rattle.pcode_machine.specs.declared.turn.Transfer.{Transfer}
use Rattle.pcode_machine.specs.declared.turn.End.{End}
use Rattle.pcode_machine.specs.declared.turn.End.TheVariants.{Normal, Error}
use Rattle.pcode_machine.specs.Configuration.{State, Configuration, current_of}
use Rattle.pcode_machine.specs.Transition.{Transition, Goes, Stops, Waiting, Stuck}
use Rattle.pcode_frozen.specs.Twins.{PlacePairs, GoesOn}

-- The frames of two programs, which differ in procedures and offsets alone. Both programs go on
-- alike where they return to. The main frame of `p` is one of procedure 1.
pub record AreTwinFrames (q : Parts) (K : PlacePairs) (fs gs : List Frame) : Type 0 where
  pub same : length fs ≡ length gs
  pub each : (i : ℕ) (f g : Frame) → slice_get fs i ≡ Some f → slice_get gs i ≡ Some g
      → (f.base ≡ g.base) × (f.size ≡ g.size) × (f.link ≡ g.link)
  pub backs : (i : ℕ) (f g above other : Frame) → slice_get fs i ≡ Some f → slice_get gs i ≡ Some g
      → slice_get fs (suc i) ≡ Some above → slice_get gs (suc i) ≡ Some other
      → GoesOn q K f.procedure above.back g.procedure other.back
  pub main : (f : Frame) → slice_get fs 0 ≡ Some f → f.procedure ≡ 1

-- Two pending transfers: the same, but for the places of the instructions that began them, which
-- are a pair.
abbrev pub AreTwinTransfers : PlacePairs → ℕ → ℕ → Option Transfer → Option Transfer → Type 0
AreTwinTransfers K n m None None = Unit {0}
AreTwinTransfers K n m (Some t) (Some u) =
    (u ≡ record t { at = u.at }) × K n t.at m u.at
AreTwinTransfers K n m _ _ = ⊥

-- A state of `p` and one of `q` that are the same but for procedures and offsets.
pub record AreTwins (q : Parts) (K : PlacePairs) (s t : State) : Type 0 where
  pub words : s.words ≡ t.words
  pub stack : s.stack ≡ t.stack
  pub io_result : s.io_result ≡ t.io_result
  pub frames : AreTwinFrames q K s.frames t.frames
  pub f : Frame
  pub g : Frame
  pub current : current_of s.frames ≡ Some f
  pub other : current_of t.frames ≡ Some g
  pub transfer : AreTwinTransfers K f.procedure g.procedure s.transfer t.transfer
  pub next : GoesOn q K f.procedure s.next g.procedure t.next

-- A configuration of `p` and one of `q`, which began when `p` had read `r` bytes and written `o`.
pub record AreTwinsAfter (q : Parts) (K : PlacePairs) (r : ℕ) (o : List ℕ) (c d : Configuration)
    : Type 0 where
  pub states : AreTwins q K c.state d.state
  pub read : c.read ≡ r + d.read
  pub output : c.output ≡ o ++ d.output

-- Two ends: both normal, or the same error at a pair of places.
abbrev pub AreTwinEnds : PlacePairs → End → End → Type 0
AreTwinEnds K Normal Normal = Unit {0}
AreTwinEnds K (Error number n i) (Error other m k) = (number ≡ other) × K n i m k
AreTwinEnds K _ _ = ⊥

-- Two transitions that are alike.
abbrev pub AreTwinTransitions : Parts → PlacePairs → ℕ → List ℕ → Transition → Transition → Type 0
AreTwinTransitions q K r o (Goes c) (Goes d) = AreTwinsAfter q K r o c d
AreTwinTransitions q K r o (Stops e) (Stops f) = AreTwinEnds K e f
AreTwinTransitions q K r o Waiting Waiting = Unit {0}
AreTwinTransitions q K r o Stuck Stuck = Unit {0}
AreTwinTransitions q K r o _ _ = ⊥
