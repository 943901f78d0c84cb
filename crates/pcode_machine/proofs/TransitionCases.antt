-- How a configuration makes its transition: by an instruction, or by a byte of a transfer.
use Rattle.std.proofs.Common.{◌≡◌, ℕ, List, Option, Some, None, Result, Ok, Err, refl, arith}
use Rattle.std.proofs.lemmas.Bool.Decides.{nat_tests}
use Rattle.pcode_file.specs.Parts.{Parts}
use Rattle.pcode_ops.specs.declared.instr.Instr.{Instr}
use Rattle.pcode_ops.specs.declared.fault.OpFault.{OpFault}
use Rattle.pcode_ops.specs.Decoding.{instr_at}
use Rattle.pcode_frames.specs.declared.frame.Frame.{Frame}
use Rattle.pcode_machine.specs.declared.turn.Transfer.{Transfer}
use Rattle.pcode_machine.specs.Configuration.{Configuration, current_of}
use Rattle.pcode_machine.specs.Execute.{execute}
use Rattle.pcode_machine.specs.Transition.{Goes, transition, in_frame, pending, moved, decoded}

-- an instruction is next, in the current frame
pub record IsAt (p : Parts) (c : Configuration) (f : Frame) (i : Instr) (j : ℕ) : Type 0 where
  pub current : current_of c.state.frames ≡ Some f
  pub idle : c.state.transfer ≡ None
  pub decoded : instr_at p.segment c.state.next ≡ Ok (i, j)

-- the ways of a step
pub data Went (p : Parts) (x : List ℕ) (c d : Configuration) : Type 0 where
  Executed : (f : Frame) (i : Instr) (j : ℕ) → IsAt p c f i j → execute p f i j c.state ≡ Some (Ok d.state)
      → d ≡ record c { state = d.state } → Went p x c d
  Moved : (f : Frame) (t : Transfer) → current_of c.state.frames ≡ Some f → c.state.transfer ≡ Some t
      → moved t.direction x c f t ≡ Goes d → Went p x c d

module _ (p : Parts) (x : List ℕ) (c d : Configuration) where
  decoded_went : (f : Frame) → current_of c.state.frames ≡ Some f → c.state.transfer ≡ None → (r : Result (Instr × ℕ) OpFault)
      → instr_at p.segment c.state.next ≡ r → decoded p c f r ≡ Goes d → Went p x c d
  decoded_went f current idle (Err fault) at e = absurd cc
  decoded_went f current idle (Ok (i, j)) at e =
      let h : (execute p f i j c.state ≡ Some (Ok d.state)) × (d ≡ record c { state = d.state }) = grind (arith, nat_tests) in
      Executed f i j (record { current = current; idle = idle; decoded = at }) h.0 h.1

  pending_went : (f : Frame) → current_of c.state.frames ≡ Some f → (o : Option Transfer) → c.state.transfer ≡ o
      → pending p x c f o ≡ Goes d → Went p x c d
  pending_went f current None idle e = decoded_went f current idle _ refl e
  pending_went f current (Some t) at e = Moved f t current at e

  frame_went : (o : Option Frame) → current_of c.state.frames ≡ o → in_frame p x c o ≡ Goes d → Went p x c d
  frame_went None none e = absurd cc
  frame_went (Some f) current e = pending_went f current _ refl e

  -- a step has come about in one of its ways
  pub went : transition p x c ≡ Goes d → Went p x c d
  went e = frame_went _ refl e
