-- Twin frames: static links lead alike, and calls and returns keep them.
use Rattle.std.proofs.Common.{◌≡◌, ℕ, zero, suc, ◌-◌, List, [], ◌∷◌, ◌++◌, length, take, Option, Some, None, slice_get, refl, inl, inr, arith}
use Rattle.std.specs.Option.{option_map}
use Rattle.std.proofs.lemmas.List.{length_push, length-take}
use Rattle.std.proofs.lemmas.Option.{slice_get_within, slice_get_past}
use Rattle.base.proofs.Lists.{get_there, get_added, get_taken, same_found, get_none}
use Rattle.pcode_file.specs.Parts.{Parts}
use Rattle.pcode_frames.specs.declared.frame.Frame.{Frame}
use Rattle.pcode_frames.specs.Frames.{current_of, link_at, up_from, link_up_of}
use Rattle.pcode_machine.specs.Calls.{frame_up}
use Rattle.pcode_frozen.specs.Twins.{PlacePairs, GoesOn}
use Rattle.pcode_frozen.specs.States.{AreTwinFrames}

-- the base of a frame, if there is one
abbrev pub base_of : Option Frame → Option ℕ
base_of o = option_map (λ (f : Frame). f.base) o

module _ {q : Parts} {K : PlacePairs} {fs gs : List Frame} (h : AreTwinFrames q K fs gs) where
  -- the other frame
  pub other_there : (i : ℕ) (f : Frame) → slice_get fs i ≡ Some f
      → (g : Frame) × (slice_get gs i ≡ Some g)
  other_there i f at = get_there gs i (omega (arith, h.same, slice_get_within fs i f at))

  links_at : (i : ℕ) (o : Option Frame) → slice_get fs i ≡ o
      → option_map (λ (f : Frame). f.link) (slice_get fs i) ≡ option_map (λ (f : Frame). f.link)
      (slice_get gs i)
  links_at i None e = let past =
      slice_get_past gs i (omega (arith, h.same, get_none fs i e)) in rw (e, past) refl
  links_at i (Some f) e = let (g, at) =
      other_there i f e in (let k = (h.each i f g e at).2 in grind (arith, e, at, k))

  pub bases_at : (i : ℕ) (o : Option Frame) → slice_get fs i ≡ o
      → base_of (slice_get fs i) ≡ base_of (slice_get gs i)
  bases_at i None e = let past =
      slice_get_past gs i (omega (arith, h.same, get_none fs i e)) in rw (e, past) refl
  bases_at i (Some f) e = let (g, at) =
      other_there i f e in (let k = (h.each i f g e at).0 in grind (arith, e, at, k))

  link_same : (i : ℕ) → link_at fs i ≡ link_at gs i
  link_same zero = refl
  link_same (suc i) = links_at (suc i) _ refl

  ups : (n i : ℕ) → up_from fs n i ≡ up_from gs n i
  ups zero i = refl
  ups (suc n) i = grind (arith, link_same i, ups n)

-- as many static links up
pub link_ups : {q : Parts} {K : PlacePairs} (fs gs : List Frame) → AreTwinFrames q K fs gs → (n : ℕ)
    → link_up_of fs n ≡ link_up_of gs n
link_ups [] [] h n = refl
link_ups [] (g ∷ gs) h n = absurd (omega (arith, h.same))
link_ups (f ∷ fs) [] h n = absurd (omega (arith, h.same))
link_ups (f ∷ fs) (g ∷ gs) h n = let same : length fs ≡ length gs =
    omega (arith, h.same) in rw same (ups h n (length gs))

module _ {q : Parts} {K : PlacePairs} {fs gs : List Frame} (h : AreTwinFrames q K fs gs) where
  frames_up_at : (n : ℕ) (o : Option ℕ) → link_up_of fs n ≡ o
      → base_of (frame_up fs n) ≡ base_of (frame_up gs n)
  frames_up_at n None e = let up = link_ups fs gs h n in grind arith
  frames_up_at n (Some i) e = let up = link_ups fs gs h n in let b =
      bases_at h i _ refl in grind arith

  -- frames that static links lead to have one base
  pub frames_up : (n : ℕ) → base_of (frame_up fs n) ≡ base_of (frame_up gs n)
  frames_up n = frames_up_at n _ refl

  -- ---- a call
  call_same : (f g : Frame) → length (fs ++ f ∷ []) ≡ length (gs ++ g ∷ [])
  call_same f g = omega (arith, h.same, length_push fs f, length_push gs g)

  call_each : (new other : Frame) → (new.base ≡ other.base) → (new.size ≡ other.size)
      → (new.link ≡ other.link)
      → (i : ℕ) (f g : Frame) → slice_get (fs ++ new ∷ []) i ≡ Some f
      → slice_get (gs ++ other ∷ []) i ≡ Some g
      → (f.base ≡ g.base) × (f.size ≡ g.size) × (f.link ≡ g.link)
  call_each new other b s l i f g at by = elim (get_added fs new i f at) [
    | inl low ↦ elim (get_added gs other i g by) [
      | inl low2 ↦ h.each i f g low low2
      | inr top ↦ absurd (omega (arith, top.0, h.same, slice_get_within fs i f low))
    ]
    | inr top ↦ elim (get_added gs other i g by) [
      | inl low2 ↦ absurd (omega (arith, top.0, h.same, slice_get_within gs i g low2))
      | inr top2 ↦ rw (top.1, top2.1) (b, s, l)
    ]
  ]

  -- one that is not the last was there before
  below : (xs : List Frame) (new : Frame) (i : ℕ) (f above : Frame)
      → slice_get (xs ++ new ∷ []) i ≡ Some f
      → slice_get (xs ++ new ∷ []) (suc i) ≡ Some above → slice_get xs i ≡ Some f
  below xs new i f above at up = elim (get_added xs new i f at) [
    | inl low ↦ low
    | inr top ↦ absurd (omega
        (arith, top.0, length_push xs new, slice_get_within _ (suc i) above up))
  ]

  call_backs : (new other f0 g0 : Frame) → current_of fs ≡ Some f0 → current_of gs ≡ Some g0
      → GoesOn q K f0.procedure new.back g0.procedure other.back
      → (i : ℕ) (f g above over : Frame) → slice_get (fs ++ new ∷ []) i ≡ Some f
      → slice_get (gs ++ other ∷ []) i ≡ Some g
      → slice_get (fs ++ new ∷ []) (suc i) ≡ Some above
      → slice_get (gs ++ other ∷ []) (suc i) ≡ Some over
      → GoesOn q K f.procedure above.back g.procedure over.back
  call_backs new other f0 g0 cf cg on i f g above over at by up up2 =
      let low = below fs new i f above at up in
      let low2 = below gs other i g over by up2 in
      elim (get_added fs new (suc i) above up) [
        | inl old ↦ elim (get_added gs other (suc i) over up2) [
          | inl old2 ↦ h.backs i f g above over low low2 old old2
          | inr top ↦ absurd (omega (arith, top.0, h.same, slice_get_within fs (suc i) above old))
        ]
        | inr top ↦ elim (get_added gs other (suc i) over up2) [
          | inl old2 ↦ absurd (omega (arith, top.0, h.same, slice_get_within gs (suc i) over old2))
          | inr top2 ↦ (
              let last : i ≡ length fs - 1 = omega (arith, top.0) in
              let last2 : i ≡ length gs - 1 = omega (arith, top2.0) in
              let is : f ≡ f0 = same_found (slice_get fs i) f f0 low (rw last cf) in
              let is2 : g ≡ g0 = same_found (slice_get gs i) g g0 low2 (rw last2 cg) in
              rw (is, is2, top.1, top2.1) on
              )
        ]
      ]

  call_main : (new f0 f : Frame) → current_of fs ≡ Some f0 → slice_get (fs ++ new ∷ []) 0 ≡ Some f
      → f.procedure ≡ 1
  call_main new f0 f cf at = elim (get_added fs new 0 f at) [
    | inl low ↦ h.main f low
    | inr top ↦ absurd (omega (arith, top.0, slice_get_within fs (length fs - 1) f0 cf))
  ]

  pub called : (new other f0 g0 : Frame) → current_of fs ≡ Some f0 → current_of gs ≡ Some g0
      → (new.base ≡ other.base) → (new.size ≡ other.size) → (new.link ≡ other.link)
      → GoesOn q K f0.procedure new.back g0.procedure other.back
      → AreTwinFrames q K (fs ++ new ∷ []) (gs ++ other ∷ [])
  called new other f0 g0 cf cg b s l on = record {
    same = call_same new other;
    each = call_each new other b s l;
    backs = call_backs new other f0 g0 cf cg on;
    main = λ f at. call_main new f0 f cf at;
  }

  -- ---- a return
  take_same : (n : ℕ) → length (take n fs) ≡ length (take n gs)
  take_same n = grind (arith, h.same, length-take n fs, length-take n gs)

  pub returned : (n : ℕ) → AreTwinFrames q K (take n fs) (take n gs)
  returned n = record {
    same = take_same n;
    each = λ i f g at by. h.each i f g (get_taken n fs i f at).1 (get_taken n gs i g by).1;
    backs = λ i f g above over at by up up2. h.backs i f g above over (get_taken n fs i f at).1
        (get_taken n gs i g by).1
        (get_taken n fs (suc i) above up).1 (get_taken n gs (suc i) over up2).1;
    main = λ f at. h.main f (get_taken n fs 0 f at).1;
  }
