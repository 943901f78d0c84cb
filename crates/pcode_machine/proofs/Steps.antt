-- A step as a relation is a step of the function.
use Rattle.std.proofs.Common.{◌≡◌, ◌↔◌, ℕ, List, Option, Some, None, Result, Ok, Err, refl, arith}
use Rattle.std.proofs.lemmas.Option.{slice_get_past}
use Rattle.std.proofs.lemmas.Bool.Decides.{nat_tests}
use Rattle.base.proofs.Lists.{get_none}
use Rattle.pcode_file.specs.Parts.{Parts}
use Rattle.pcode_ops.specs.declared.instr.Instr.{Instr}
use Rattle.pcode_ops.specs.declared.fault.OpFault.{OpFault}
use Rattle.pcode_ops.specs.At.{At}
use Rattle.pcode_ops.specs.Decoding.{instr_at}
use Rattle.pcode_frames.specs.declared.frame.Frame.{Frame}
use Rattle.pcode_frames.specs.Words.{live_byte_at}
use Rattle.pcode_machine.specs.declared.turn.Direction.{Direction}
use Rattle.pcode_machine.specs.declared.turn.Transfer.{Transfer}
use Rattle.pcode_machine.specs.declared.turn.End.{End}
use Rattle.pcode_machine.specs.declared.turn.End.TheVariants as ends
use Rattle.pcode_machine.specs.declared.turn.Stop.{Stop}
use Rattle.pcode_machine.specs.declared.turn.Stop.TheVariants.{Normal, Error}
use Rattle.pcode_machine.specs.declared.errors.ExecutionError.TheVariants.{BadAddress}
use Rattle.pcode_machine.specs.Configuration.{State, Configuration, current_of}
use Rattle.pcode_machine.specs.Effects.{effect_of}
use Rattle.pcode_machine.specs.Errors.{error_number}
use Rattle.pcode_machine.specs.Execute.{execute}
use Rattle.pcode_machine.specs.Transition.{Goes, Stops, Waiting, transition, pending, moved, decoded, after_effect, end_by}
use Rattle.pcode_machine.specs.Step.{Moves, Acts, Step, StopsBy, StopsIn, Ends, Awaits}
use Rattle.pcode_machine.proofs.TransitionCases.{Executed, Moved, went}
use Rattle.pcode_machine.proofs.EffectRelations.{holds, goes, fails}

-- an instruction is decoded exactly where it is
abbrev pub Decodes : List ℕ → Type 0
Decodes code = (i : ℕ) (instr : Instr) (j : ℕ) → (instr_at code i ≡ Ok (instr, j)) ↔ At code i instr j

-- ---- a byte of a transfer, by its direction

moved_goes : (dir : Direction) (x : List ℕ) (c : Configuration) (f : Frame) (t : Transfer) (d : Configuration)
    → (moved dir x c f t ≡ Goes d) ↔ Moves dir x c t d
moved_goes dir x c f t d = grind (arith, nat_tests)

moved_stops : (dir : Direction) (x : List ℕ) (c : Configuration) (f : Frame) (t : Transfer) (e : End)
    → (moved dir x c f t ≡ Stops e)
    ↔ ((live_byte_at c.state.words t.address ≡ None) × (e ≡ ends.Error (error_number BadAddress) f.procedure t.at))
moved_stops dir x c f t e = grind (arith, nat_tests)

-- ---- an end by an instruction

after_stops : (c : Configuration) (f : Frame) (o : Option (Result State Stop)) (e : End) → after_effect c f o ≡ Stops e
    → (stop : Stop) × (o ≡ Some (Err stop)) × (e ≡ end_by stop f c.state.next)
after_stops c f o e h = grind (arith, nat_tests)

stops_by : (p : Parts) (c : Configuration) (f : Frame) (i : Instr) (j : ℕ) (stop : Stop)
    → execute p f i j c.state ≡ Some (Err stop) → StopsBy p c f i j (end_by stop f c.state.next)
stops_by p c f i j Normal e = rw e at (holds (effect_of p f i j c.state) j c.state)
stops_by p c f i j (Error n) e = (n, rw e at (holds (effect_of p f i j c.state) j c.state), refl, refl, refl)

module _ (p : Parts) (known : Decodes p.segment) (x : List ℕ) (c : Configuration) where
  -- ---- steps

  acts_is : (f : Frame) (o : Option Transfer) (d : Configuration) → Acts p x c f o d → pending p x c f o ≡ Goes d
  acts_is f None d (i, j, s, at, h, is) =
      rw ((known c.state.next i j).1 at, goes (effect_of p f i j c.state) j c.state s h, is) refl
  acts_is f (Some t) d h = (moved_goes t.direction x c f t d).1 h

  pub step_is : (d : Configuration) → Step p x c d → transition p x c ≡ Goes d
  step_is d h = rw h.1 (acts_is h.0 c.state.transfer d h.2)

  in_transfer : (f : Frame) (d : Configuration) {k o : Option Transfer} → k ≡ o → Acts p x c f o d → Acts p x c f k d
  in_transfer f d e h = rw e h

  pub is_step : (d : Configuration) → transition p x c ≡ Goes d → Step p x c d
  is_step d e = elim (went p x c d e) [
    | Executed f i j at made is ↦
        let h = rw made at (holds (effect_of p f i j c.state) j c.state) in
        (f, at.current, in_transfer f d at.idle (i, j, d.state, (known c.state.next i j).0 at.decoded, h, is))
    | Moved f t current at e ↦ (f, current, in_transfer f d at ((moved_goes t.direction x c f t d).0 e))
  ]

  -- an instruction that is next is the one that a step executes
  pub executed : (d : Configuration) (i : Instr) (j : ℕ) → c.state.transfer ≡ None → At p.segment c.state.next i j → Step p x c d
      → (f : Frame) × (current_of c.state.frames ≡ Some f) × (execute p f i j c.state ≡ Some (Ok d.state))
      × (d ≡ record c { state = d.state })
  executed d i j idle at step = elim (went p x c d (step_is d step)) [
    | Executed f k l here made is ↦
        let there = (known c.state.next i j).1 at in let same : (k ≡ i) × (l ≡ j) = grind arith in
        (f, here.current, rw (same.0, same.1) at made, is)
    | Moved f t current there e ↦ absurd (cc)
  ]

  -- ---- ends

  pending_stops : (f : Frame) (o : Option Transfer) (e : End) → StopsIn p c f o e → pending p x c f o ≡ Stops e
  pending_stops f None e (i, j, at, h) = rw ((known c.state.next i j).1 at) (grind (arith, nat_tests, fails))
  pending_stops f (Some t) e h = (moved_stops t.direction x c f t e).1 h

  pub end_is : (e : End) → Ends p c e → transition p x c ≡ Stops e
  end_is e h = grind (arith, nat_tests, pending_stops)

  decoded_ends : (f : Frame) (r : Result (Instr × ℕ) OpFault) (e : End) → instr_at p.segment c.state.next ≡ r
      → decoded p c f r ≡ Stops e → StopsIn p c f None e
  decoded_ends f (Err fault) e at h = absurd cc
  decoded_ends f (Ok (i, j)) e at h =
      let s = after_stops c f (execute p f i j c.state) e h in
      (i, j, (known c.state.next i j).0 at, rw s.2 (stops_by p c f i j s.0 s.1))

  pub is_end : (e : End) → transition p x c ≡ Stops e → Ends p c e
  is_end e h = grind (arith, nat_tests, decoded_ends, moved_stops)

-- ---- waits

pub wait_is : (p : Parts) (x : List ℕ) (c : Configuration) → Awaits x c → transition p x c ≡ Waiting
wait_is p x c h = grind (arith, nat_tests, slice_get_past)

pub is_wait : (p : Parts) (x : List ℕ) (c : Configuration) → transition p x c ≡ Waiting → Awaits x c
is_wait p x c e = grind (arith, nat_tests, get_none)
