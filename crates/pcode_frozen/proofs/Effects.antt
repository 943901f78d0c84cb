-- Effects that read neither frames nor offsets.
use Rattle.std.proofs.Common.{◌≡◌, ℕ, List, Option, Some, None, Result, Ok, Err, arith}
use Rattle.std.proofs.lemmas.Bool.Decides.{nat_tests}
use Rattle.pcode_frames.specs.declared.frame.Frame.{Frame}
use Rattle.pcode_machine.specs.declared.turn.Stop.{Stop}
use Rattle.pcode_machine.specs.Configuration.{State}
use Rattle.pcode_machine.specs.Effects.{Effect, Go, Branch, BranchByTwo, Call, Return, Begin}
use Rattle.pcode_machine.specs.Execute.{made}

-- the effects on words and stack alone, errors and the end
abbrev pub IsLocal : Effect → Type 0
IsLocal (Go k) = ⊥
IsLocal (Branch to) = ⊥
IsLocal (BranchByTwo to) = ⊥
IsLocal (Call n q link) = ⊥
IsLocal (Return n f) = ⊥
IsLocal (Begin direction) = ⊥
IsLocal _ = Unit {0}

-- a state with other frames and another next offset
abbrev pub shifted : List Frame → ℕ → State → State
shifted gs l s = record s { frames = gs; next = l }

abbrev pub shifted_result : List Frame → ℕ → Option (Result State Stop) → Option (Result State Stop)
shifted_result gs l None = None
shifted_result gs l (Some (Err e)) = Some (Err e)
shifted_result gs l (Some (Ok s)) = Some (Ok (shifted gs l s))

pub local_shifted : (x : Effect) (j l k : ℕ) (gs : List Frame) (s : State) → IsLocal x
    → made x l (shifted gs k s) ≡ shifted_result gs l (made x j s)
local_shifted x j l k gs s local = grind (arith, nat_tests)

-- and where they lead
abbrev pub IsKept : State → ℕ → Option (Result State Stop) → Type 0
IsKept s j (Some (Ok t)) =
    (t.frames ≡ s.frames) × (t.next ≡ j) × (t.transfer ≡ s.transfer) × (t.io_result ≡ s.io_result)
IsKept s j _ = Unit {0}

pub local_kept : (x : Effect) (j : ℕ) (s : State) → IsLocal x → IsKept s j (made x j s)
local_kept x j s local = grind (arith, nat_tests)
