-- States of which the frames are compared one by one.
use Rattle.std.proofs.Common.{◌≡◌, ℕ, suc, List, Some, slice_get}
use Rattle.pcode_file.specs.Parts.{Parts}
use Rattle.pcode_frames.specs.declared.frame.Frame.{Frame}
use Rattle.pcode_frozen.specs.Originals.{IsTwinAt}
use Rattle.pcode_frozen.specs.Twins.{PlacePairs, GoesOn}

module _ (q : Parts) (K : PlacePairs) (fs gs : List Frame) (i : ℕ) (one two : Frame)
    (here : slice_get fs i ≡ Some one) (there : slice_get gs i ≡ Some two)
    (same : (one.base ≡ two.base) × (one.size ≡ two.size) × (one.link ≡ two.link)) where
  -- of two frames
  twin_at : ((above other : Frame) → slice_get fs (suc i) ≡ Some above
      → slice_get gs (suc i) ≡ Some other
      → GoesOn q K one.procedure above.back two.procedure other.back) → IsTwinAt q K fs gs i
  twin_at on f g at by =
      let a : f ≡ one = cc in
      let b : g ≡ two = cc in
      rw (a, b) (same, on)

  -- with frames above
  pub twin_below : (a b : Frame) → slice_get fs (suc i) ≡ Some a → slice_get gs (suc i) ≡ Some b
      → GoesOn q K one.procedure a.back two.procedure b.back → IsTwinAt q K fs gs i
  twin_below a b up up2 on = twin_at (λ above other at by.
      let e : above ≡ a = cc in
      let e2 : other ≡ b = cc in
      rw (e, e2) on)
