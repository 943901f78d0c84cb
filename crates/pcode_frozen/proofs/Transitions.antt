-- Twin configurations have twin transitions.
use Rattle.std.proofs.Common.{◌≡◌, ◌⊎◌, ℕ, ◌+◌, ◌-◌, ◌==◌, if◌then◌else◌, Bool, true, false, List, [], ◌∷◌, ◌++◌, Option, Some, None, IsSome, Result, Ok, Err, slice_get, refl, sym, subst, inl, inr, append_assoc, arith, pos, ◌+ℤ◌}
use Rattle.std.specs.Prelude.{nat_lt}
use Rattle.pcode_file.specs.Parts.{Parts}
use Rattle.pcode_ops.specs.declared.instr.Instr.{Instr}
use Rattle.pcode_ops.specs.declared.instr.Instr.TheVariants.{Ujp}
use Rattle.pcode_ops.specs.Decoding.{instr_at}
use Rattle.pcode_frames.specs.declared.frame.Frame.{Frame}
use Rattle.pcode_frames.specs.Words.{live_byte_at}
use Rattle.pcode_frames.specs.Frames.{current_of}
use Rattle.pcode_machine.specs.declared.turn.Stop.{Stop}
use Rattle.pcode_machine.specs.declared.turn.Stop.TheVariants.{Normal, Error}
use Rattle.pcode_machine.specs.declared.turn.Direction.{Direction}
use Rattle.pcode_machine.specs.declared.turn.Direction.TheVariants.{Reading, Writing}
use Rattle.pcode_machine.specs.declared.turn.Transfer.{Transfer}
use Rattle.pcode_machine.specs.Configuration.{State, Configuration}
use Rattle.pcode_machine.specs.Transfers.{rest_of}
use Rattle.pcode_machine.specs.Execute.{execute}
use Rattle.pcode_machine.specs.Transition.{Transition, Goes, Stops, Waiting, transition, after_effect, moved, written, taken, pending, on_some}
use Rattle.pcode_machine.specs.declared.turn.End.TheVariants as ends
use Rattle.pcode_machine.specs.Errors.{error_number}
use Rattle.pcode_machine.specs.declared.errors.ExecutionError.TheVariants.{BadAddress}
use Rattle.pcode_frozen.specs.Twins.{PlacePairs, GoesOn, AreTwinPrograms}
use Rattle.pcode_frozen.specs.States.{AreTwinTransfers, AreTwinsAfter, AreTwinTransitions}
use Rattle.pcode_frozen.proofs.Effects.{shifted}
use Rattle.pcode_frozen.proofs.TwinEffects.{twin_effects}
use Rattle.pcode_frozen.proofs.Results.{TwinResults, effect_twins}

-- a transfer is pending, or the next offsets are alike
abbrev pub IsSettled : PlacePairs → ℕ → ℕ → State → State → Type 0
IsSettled K n m s t = IsSome s.transfer ⊎ ((s.transfer ≡ None) × K n s.next m t.next)

no_other : (K : PlacePairs) (n m : ℕ) (o u : Option Transfer) → o ≡ None
    → AreTwinTransfers K n m o u → u ≡ None
no_other K n m None None e h = refl
no_other K n m None (Some u) e h = absurd h
no_other K n m (Some t) u e h = absurd cc

when : (K : PlacePairs) (n m : ℕ) (b : Bool) (t : Transfer) (at : ℕ) → K n t.at m at
    → AreTwinTransfers K n m (if b then Some
    (record t { address = t.address +ℤ pos 1; left = t.left - 1 }) else None)
    (if b then Some (record t { address = t.address +ℤ pos 1; left = t.left - 1; at = at }) else
    None)
when K n m true t at here = (refl, here)
when K n m false t at here = tt

rest_twins : (K : PlacePairs) (n m : ℕ) (t : Transfer) (at : ℕ) → K n t.at m at
    → AreTwinTransfers K n m (rest_of t) (rest_of (record t { at = at }))
rest_twins K n m t at here = when K n m (nat_lt 1 t.left) t at here

-- the transition of a decoded instruction, and of a pending transfer
module _ (p : Parts) (x : List ℕ) (c : Configuration) (f : Frame)
    (current : current_of c.state.frames ≡ Some f) where
  pending_is : (i : Instr) (j : ℕ) → instr_at p.segment c.state.next ≡ Ok (i, j)
      → (u : Option Transfer) → u ≡ None
      → pending p x c f u ≡ after_effect c f (execute p f i j c.state)
  pending_is i j at None e = rw at refl
  pending_is i j at (Some t) e = absurd cc

  pub instruction_is : (i : Instr) (j : ℕ) → instr_at p.segment c.state.next ≡ Ok (i, j)
      → c.state.transfer ≡ None
      → transition p x c ≡ after_effect c f (execute p f i j c.state)
  instruction_is i j at e = rw current (pending_is i j at _ e)

  pending_some : (t : Transfer) (u : Option Transfer) → u ≡ Some t
      → pending p x c f u ≡ moved t.direction x c f t
  pending_some t None e = absurd cc
  pending_some t (Some u) e = (let same : u ≡ t = cc in rw same refl)

  pub transfer_is : (t : Transfer) → c.state.transfer ≡ Some t
      → transition p x c ≡ moved t.direction x c f t
  transfer_is t e = rw current (pending_some t _ e)

-- a step of q alone, after which the two are settled
pub record Detours (q : Parts) (K : PlacePairs) (r : ℕ) (o y : List ℕ)
    (c d : Configuration) : Type 0 where
  pub next : Configuration
  pub goes : transition q y d ≡ Goes next
  pub twins : AreTwinsAfter q K r o c next
  pub settled : IsSettled K twins.states.f.procedure twins.states.g.procedure c.state next.state

module _ (p q : Parts) (K : PlacePairs) (r : ℕ) (o : List ℕ) where
  -- ---- an instruction

  after_twins : (c d : Configuration) (f g : Frame) (a b : Option (Result State Stop))
      → c.read ≡ r + d.read → c.output ≡ o ++ d.output
      → K f.procedure c.state.next g.procedure d.state.next → TwinResults q K a b
      → AreTwinTransitions q K r o (after_effect c f a) (after_effect d g b)
  after_twins c d f g None None read output here h = tt
  after_twins c d f g (Some (Ok s)) (Some (Ok t)) read output here h =
      record { states = h; read = read; output = output }
  after_twins c d f g (Some (Err Normal)) (Some (Err Normal)) read output here h = tt
  after_twins c d f g (Some (Err (Error e))) (Some (Err (Error e2))) read output here h =
      let same : e ≡ e2 = cc in rw same (refl, here)
  after_twins c d f g (Some (Err Normal)) (Some (Err (Error e2))) read output here h = absurd cc
  after_twins c d f g (Some (Err (Error e))) (Some (Err Normal)) read output here h = absurd cc
  after_twins c d f g None (Some b) read output here h = absurd (grind arith)
  after_twins c d f g (Some (Ok a)) None read output here h = absurd h
  after_twins c d f g (Some (Err a)) None read output here h = absurd h
  after_twins c d f g (Some (Ok a)) (Some (Err b)) read output here h = absurd h
  after_twins c d f g (Some (Err a)) (Some (Ok b)) read output here h = absurd h

  module _ (x y : List ℕ) (closed : AreTwinPrograms p q K) (c d : Configuration)
      (h : AreTwinsAfter q K r o c d) where
    other_state : (e : c.state.transfer ≡ None)
        → shifted d.state.frames d.state.next c.state ≡ d.state
    other_state e =
        let none = no_other K h.states.f.procedure h.states.g.procedure _ _ e h.states.transfer in
        let w = h.states.words in let s = h.states.stack in let i =
        h.states.io_result in grind (arith, w, s, i, none, e)

    pub instruction_twins : (e : c.state.transfer ≡ None)
        → K h.states.f.procedure c.state.next h.states.g.procedure d.state.next
        → AreTwinTransitions q K r o (transition p x c) (transition q y d)
    instruction_twins e here =
        let s = h.states in
        let none = no_other K s.f.procedure s.g.procedure _ _ e s.transfer in
        let at = closed s.f.procedure c.state.next s.g.procedure d.state.next here in
        let last = (s.frames.each _ s.f s.g s.current (rw s.frames.same s.other)).0 in
        let effects = twin_effects p q K c.state d.state s.f s.g at.after at.after_other s.frames
        (sym last) (sym s.io_result) at.instr at.other at.same in
        let results = effect_twins q K c.state d.state.frames d.state.next s.f s.g s.frames
        s.current s.other e at.after at.after_other _ _ effects here in
        let one = instruction_is p x c s.f s.current at.instr at.after at.here e in
        let two = instruction_is q y d s.g s.other at.other at.after_other at.there none in
        rw (one, two) (after_twins c d s.f s.g _ _ h.read h.output here
        (rw (other_state e) at results))

    -- ---- a byte of a transfer

    added : (b : ℕ) → c.output ++ b ∷ [] ≡ o ++ (d.output ++ b ∷ [])
    added b = let out = h.output in grind (arith, append_assoc, out)

    written_twins : (t : Transfer) (at b : ℕ) → K h.states.f.procedure t.at h.states.g.procedure at
        → AreTwinsAfter q K r o (written c t b) (written d (record t { at = at }) b)
    written_twins t at b here = let s = h.states in record {
      states = record {
        words = s.words;
        stack = s.stack;
        io_result = s.io_result;
        frames = s.frames;
        f = s.f;
        g = s.g;
        current = s.current;
        other = s.other;
        transfer = rest_twins K s.f.procedure s.g.procedure t at here;
        next = s.next;
      };
      read = h.read;
      output = added b;
    }

    taken_output : (b : ℕ) (c1 : Bool)
        → (if c1 then c.output ++ b ∷ [] else c.output) ≡ o ++
        (if c1 then d.output ++ b ∷ [] else d.output)
    taken_output b true = added b
    taken_output b false = h.output

    taken_twins : (t : Transfer) (at b : ℕ) → K h.states.f.procedure t.at h.states.g.procedure at
        → AreTwinsAfter q K r o (taken c t b) (taken d (record t { at = at }) b)
    taken_twins t at b here = let s = h.states in record {
      states = record {
        words = (let w = s.words in rw w refl);
        stack = s.stack;
        io_result = s.io_result;
        frames = s.frames;
        f = s.f;
        g = s.g;
        current = s.current;
        other = s.other;
        transfer = rest_twins K s.f.procedure s.g.procedure t at here;
        next = s.next;
      };
      read = omega (arith, h.read);
      output = taken_output b (t.unit == 1);
    }

    reading_twins : (t : Transfer) (at : ℕ) (v : Option ℕ)
        → K h.states.f.procedure t.at h.states.g.procedure at
        → AreTwinTransitions q K r o (on_some v Waiting (λ b. Goes (taken c t b)))
        (on_some v Waiting (λ b. Goes (taken d (record t { at = at }) b)))
    reading_twins t at None here = tt
    reading_twins t at (Some b) here = taken_twins t at b here

    stops_twins : (t : Transfer) (at : ℕ) (v : Option ℕ) (a b : ℕ → Transition)
        → K h.states.f.procedure t.at h.states.g.procedure at
        → ((w : ℕ) → AreTwinTransitions q K r o (a w) (b w))
        → AreTwinTransitions q K r o
        (on_some v (Stops (ends.Error (error_number BadAddress) h.states.f.procedure t.at)) a)
        (on_some v (Stops (ends.Error (error_number BadAddress) h.states.g.procedure at)) b)
    stops_twins t at None a b here go = (refl, here)
    stops_twins t at (Some w) a b here go = go w

    moved_twins : ((k : ℕ) → slice_get x (r + k) ≡ slice_get y k)
        → (dir : Direction) (t : Transfer) (at : ℕ)
        → K h.states.f.procedure t.at h.states.g.procedure at
        → AreTwinTransitions q K r o (moved dir x c h.states.f t)
        (moved dir y d h.states.g (record t { at = at }))
    moved_twins inputs Writing t at here =
        let w : live_byte_at d.state.words t.address ≡ live_byte_at c.state.words t.address =
        (let v = h.states.words in rw v refl) in
        rw w (stops_twins t at (live_byte_at c.state.words t.address) _ _ here
        (λ b. written_twins t at b here))
    moved_twins inputs Reading t at here =
        let w : live_byte_at d.state.words t.address ≡ live_byte_at c.state.words t.address =
        (let v = h.states.words in rw v refl) in
        let e : slice_get x c.read ≡ slice_get y d.read =
        (let read = h.read in rw read (inputs d.read)) in
        rw (w, e) (stops_twins t at (live_byte_at c.state.words t.address) _ _ here
        (λ b. reading_twins t at (slice_get y d.read) here))

    pending_twins : ((k : ℕ) → slice_get x (r + k) ≡ slice_get y k) → (a b : Option Transfer)
        → c.state.transfer ≡ a → d.state.transfer ≡ b
        → IsSome a → AreTwinTransfers K h.states.f.procedure h.states.g.procedure a b
        → AreTwinTransitions q K r o (transition p x c) (transition q y d)
    pending_twins inputs None b e e2 some twin = absurd cc
    pending_twins inputs (Some t) None e e2 some twin = absurd twin
    pending_twins inputs (Some t) (Some u) e e2 some twin =
        let one = transfer_is p x c h.states.f h.states.current t e in
        let two = transfer_is q y d h.states.g h.states.other u e2 in
        let is = twin.0 in
        let made = moved_twins inputs t.direction t u.at twin.1 in
        rw (one, two) (subst (λ (w : Transfer). AreTwinTransitions q K r o
        (moved t.direction x c h.states.f t) (moved w.direction y d h.states.g w))
        (sym is) made)

    -- settled twins have twin transitions
    pub settled_twins : ((k : ℕ) → slice_get x (r + k) ≡ slice_get y k)
        → IsSettled K h.states.f.procedure h.states.g.procedure c.state d.state
        → AreTwinTransitions q K r o (transition p x c) (transition q y d)
    settled_twins inputs (inl some) = pending_twins inputs _ _ refl refl some h.states.transfer
    settled_twins inputs (inr both) = instruction_twins both.0 both.1

    -- twins are settled, or q goes on by a UJP to one that is
    settles_from : (u : Option Transfer) → c.state.transfer ≡ u
        → GoesOn q K h.states.f.procedure c.state.next h.states.g.procedure d.state.next
        → IsSettled K h.states.f.procedure h.states.g.procedure c.state d.state
        ⊎ Detours q K r o y c d
    settles_from (Some t) e on = inl (inl (rw e refl))
    settles_from None e (inl here) = inl (inr (e, here))
    settles_from None e (inr (sb, l, t, at, leads, here)) =
        let none = no_other K h.states.f.procedure h.states.g.procedure _ _ e h.states.transfer in
        let s = h.states in
        let next = record d { state = record d.state { next = t } } in
        inr (record {
          next = next;
          goes = (let one = instruction_is q y d s.g s.other (Ujp sb) l at none in
              rw one (rw leads refl));
          twins = record {
            states = record {
              words = s.words;
              stack = s.stack;
              io_result = s.io_result;
              frames = s.frames;
              f = s.f;
              g = s.g;
              current = s.current;
              other = s.other;
              transfer = s.transfer;
              next = inl here;
            };
            read = h.read;
            output = h.output;
          };
          settled = inr (e, here);
        })

    pub settles : IsSettled K h.states.f.procedure h.states.g.procedure c.state d.state
        ⊎ Detours q K r o y c d
    settles = settles_from _ refl h.states.next
