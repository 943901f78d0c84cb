-- The transition of a configuration on a whole input, as a function.
use Rattle.std.specs.Prelude.{ℕ, ◌+◌, ◌==◌, if◌then◌else◌, List, [], ◌∷◌, ◌++◌, slice_get, Option, Some, None, Result, Ok, Err}
use Rattle.pcode_file.specs.Parts.{Parts}
use Rattle.pcode_ops.specs.declared.instr.Instr.{Instr}
use Rattle.pcode_ops.specs.declared.fault.OpFault.{OpFault}
use Rattle.pcode_ops.specs.Decoding.{instr_at}
use Rattle.pcode_frames.specs.declared.frame.Frame.{Frame}
use Rattle.pcode_machine.specs.declared.turn.Transfer.{Transfer}
use Rattle.pcode_machine.specs.declared.turn.Direction.{Direction}
use Rattle.pcode_machine.specs.declared.turn.Direction.TheVariants.{Reading, Writing}
use Rattle.pcode_machine.specs.declared.turn.End.{End}
use Rattle.pcode_machine.specs.declared.turn.End.TheVariants as ends
use Rattle.pcode_machine.specs.declared.turn.Stop.{Stop}
use Rattle.pcode_machine.specs.declared.turn.Stop.TheVariants.{Normal, Error}
use Rattle.pcode_frames.specs.Words.{live_byte_at, with_byte}
use Rattle.pcode_machine.specs.Configuration.{State, Configuration, current_of}
use Rattle.pcode_machine.specs.Transfers.{rest_of}
use Rattle.pcode_machine.specs.Execute.{execute}
use Rattle.pcode_machine.specs.declared.errors.ExecutionError.TheVariants.{NoRoom, BadAddress}
use Rattle.pcode_machine.specs.Errors.{error_number}

-- A transition of a configuration: to another one, an end, a wait for input, or nothing that is
-- defined.
-- Allows: `Stuck`, if no instruction is at the offset or what it names does not exist. No machine
-- over a program meets it.
pub data Transition : Type 0 where
  Goes : Configuration → Transition
  Stops : End → Transition
  Waiting : Transition
  Stuck : Transition

-- The transition by a value, if there is one, and `d` otherwise.
abbrev pub on_some : {A : Type 0} → Option A → Transition → (A → Transition) → Transition
on_some None d f = d
on_some (Some x) d f = f x

-- ---- One byte of a transfer.

-- The configuration after a byte went out.
abbrev pub written : Configuration → Transfer → ℕ → Configuration
written c t b =
    record {
      state = record c.state { transfer = rest_of t };
      read = c.read;
      output = c.output ++ b ∷ [];
    }

-- The configuration after a byte came in.
-- Unit 1 also writes it.
abbrev pub taken : Configuration → Transfer → ℕ → Configuration
taken c t b = record {
  state = record c.state { words = with_byte c.state.words t.address b; transfer = rest_of t };
  read = c.read + 1;
  output = if t.unit == 1 then c.output ++ b ∷ [] else c.output;
}

-- The transition of a pending transfer.
-- The byte's address is checked before it moves, and before the machine waits.
-- Source: Manual, UNITREAD and UNITWRITE.
abbrev pub moved : Direction → List ℕ → Configuration → Frame → Transfer → Transition
moved Writing x c f t =
    on_some (live_byte_at c.state.words t.address)
    (Stops (ends.Error (error_number BadAddress) f.procedure t.at)) (λ b. Goes (written c t b))
moved Reading x c f t =
    on_some (live_byte_at c.state.words t.address)
    (Stops (ends.Error (error_number BadAddress) f.procedure t.at))
    (λ _. on_some (slice_get x c.read) Waiting (λ b. Goes (taken c t b)))

-- ---- One instruction.

-- The end of a program whose instruction at `at` stops.
abbrev pub end_by : Stop → Frame → ℕ → End
end_by Normal f at = ends.Normal
end_by (Error error) f at = ends.Error (error_number error) f.procedure at

-- The transition of an instruction, by the state after it or its stop.
abbrev pub after_effect : Configuration → Frame → Option (Result State Stop) → Transition
after_effect c f (Some (Ok s)) = Goes (record c { state = s })
after_effect c f (Some (Err stop)) = Stops (end_by stop f c.state.next)
after_effect c f None = Stuck

-- The transition of what is decoded at the next offset.
abbrev pub decoded : Parts → Configuration → Frame → Result (Instr × ℕ) OpFault → Transition
decoded p c f (Ok found) = after_effect c f (execute p f found.0 found.1 c.state)
decoded p c f (Err fault) = Stuck

-- The transition of the instruction at the next offset.
abbrev pub instructed : Parts → Configuration → Frame → Transition
instructed p c f = decoded p c f (instr_at p.segment c.state.next)

-- ---- A step on a whole input x.

-- The transition of a pending transfer, or of the next instruction.
abbrev pub pending : Parts → List ℕ → Configuration → Frame → Option Transfer → Transition
pending p x c f None = instructed p c f
pending p x c f (Some t) = moved t.direction x c f t

-- The transition in the current frame; error 4 if there is none.
abbrev pub in_frame : Parts → List ℕ → Configuration → Option Frame → Transition
in_frame p x c None = Stops (ends.Error (error_number NoRoom) 1 c.state.next)
in_frame p x c (Some f) = pending p x c f c.state.transfer

-- The transition of a configuration on the whole input `x`.
-- Source: Manual, p-machine instructions.
abbrev pub transition : Parts → List ℕ → Configuration → Transition
transition p x c = in_frame p x c (current_of c.state.frames)
