-- What one instruction does to the stack alone.
use Rattle.std.specs.Prelude.{◌≡◌, ℕ, List, Some, Ok}
use Rattle.pcode_file.specs.Parts.{Parts}
use Rattle.pcode_ops.specs.declared.instr.Instr.{Instr}
use Rattle.pcode_frames.specs.declared.frame.Frame.{Frame}
use Rattle.pcode_machine.specs.Configuration.{State}
use Rattle.pcode_machine.specs.Execute.{execute}

-- The instruction that changes only the stack, from one to another, and goes on at `j`.
abbrev pub MakesStack : Parts → Frame → Instr → ℕ → State → List ℕ → List ℕ → Type 0
MakesStack p f i j s before after =
    execute p f i j (record s { stack = before }) ≡ Some (Ok (record s { stack = after; next = j }))
