-- The state of the original program, made of that of the frozen one.
use Rattle.std.specs.Prelude.{◌≡◌, ℕ, suc, List, Option, Some, slice_get}
use Rattle.std.specs.Option.{option_map}
use Rattle.pcode_file.specs.Parts.{Parts}
use Rattle.pcode_frames.specs.declared.frame.Frame.{Frame}
use Rattle.pcode_machine.specs.declared.turn.Transfer.{Transfer}
use Rattle.pcode_machine.specs.Configuration.{State}
use Rattle.pcode_frozen.specs.Twins.{PlacePairs, GoesOn}

-- The same pending transfer, if there is one, begun at this offset.
abbrev pub begun_at : ℕ → Option Transfer → Option Transfer
begun_at at transfer = option_map (λ (t : Transfer). record t { at = at }) transfer

-- The state of the original program with these frames and this next offset, and with a pending
-- transfer that began at `at`. All else is as in a state of the frozen program.
abbrev pub original_of : List Frame → ℕ → ℕ → State → State
original_of frames next at s =
    record s { frames = frames; next = next; transfer = begun_at at s.transfer }

-- The frames of index `i` of two programs: they have the same words and the same static link, and
-- both programs go on alike where the frames above return to.
abbrev pub IsTwinAt : Parts → PlacePairs → List Frame → List Frame → ℕ → Type 0
IsTwinAt q K fs gs i =
    (f g : Frame) → slice_get fs i ≡ Some f → slice_get gs i ≡ Some g
    → ((f.base ≡ g.base) × (f.size ≡ g.size) × (f.link ≡ g.link))
    × ((above other : Frame) → slice_get fs (suc i) ≡ Some above
    → slice_get gs (suc i) ≡ Some other
    → GoesOn q K f.procedure above.back g.procedure other.back)
