-- Twin configurations have twin runs, outputs and ends.
use Rattle.std.proofs.Common.{◌≡◌, ℕ, zero, suc, ◌+◌, List, [], ◌∷◌, ◌++◌, slice_get, refl, ap, inl, inr, append_assoc, arith}
use Rattle.pcode_file.specs.Parts.{Parts}
use Rattle.pcode_machine.specs.Configuration.{Configuration}
use Rattle.pcode_machine.specs.Transition.{Transition, Goes, Stops, Waiting, Stuck, transition}
use Rattle.pcode_machine.specs.Runs.{IsPrefix, IsOutput, led, after_steps, out}
use Rattle.pcode_frozen.specs.Twins.{PlacePairs, AreTwinPrograms}
use Rattle.pcode_frozen.specs.States.{AreTwinsAfter, AreTwinTransitions}
use Rattle.pcode_frozen.proofs.MachineLaws.{RunLaws}
use Rattle.pcode_frozen.proofs.Transitions.{Detours, settled_twins, settles}

-- the configuration some steps after another one, or fewer if no further step exists
unfoldable pub later : Parts → List ℕ → ℕ → Configuration → Configuration
later p x zero c = c
later p x (suc n) c = led (later p x n c) (transition p x (later p x n c))

-- steps from where steps have led
pub later_on : (p : Parts) (x : List ℕ) (n m : ℕ)
    → after_steps p x (m + n) ≡ later p x n (after_steps p x m)
unfolding later after_steps
later_on p x zero m = let same : m + 0 ≡ m = omega arith in rw same refl
later_on p x (suc n) m = let next : m + suc n ≡ suc (m + n) =
    omega arith in rw (next, later_on p x n m) refl

-- the same in front of both
before : (o z w : List ℕ) → IsPrefix z w → IsPrefix (o ++ z) (o ++ w)
before o z w h = let whole =
    h.whole in record { rest = h.rest; whole = grind (arith, append_assoc, whole) }

same_front : (o a b : List ℕ) → o ++ a ≡ o ++ b → a ≡ b
same_front [] a b e = e
same_front (v ∷ o) a b e = same_front o a b cc

after : (o z w : List ℕ) → IsPrefix (o ++ z) (o ++ w) → IsPrefix z w
after o z w h =
    let whole = h.whole in
    let e : o ++ w ≡ o ++ (z ++ h.rest) = grind (arith, append_assoc, whole) in
    record { rest = h.rest; whole = same_front o w (z ++ h.rest) e }

-- ---- what has no step stays

no_step_led : (c : Configuration) (t : Transition) → ((d : Configuration) → t ≡ Goes d → ⊥)
    → led c t ≡ c
no_step_led c (Goes d) no_step = absurd (no_step d refl)
no_step_led c (Stops e) no_step = refl
no_step_led c Waiting no_step = refl
no_step_led c Stuck no_step = refl

stays : (p : Parts) (x : List ℕ) (c : Configuration)
    → ((d : Configuration) → transition p x c ≡ Goes d → ⊥) → (n : ℕ) → later p x n c ≡ c
unfolding later
stays p x c no_step zero = refl
stays p x c no_step (suc n) = let e =
    stays p x c no_step n in rw e (no_step_led c (transition p x c) no_step)

stays_after : (p : Parts) (x : List ℕ) (n k : ℕ)
    → ((d : Configuration) → transition p x (after_steps p x n) ≡ Goes d → ⊥)
    → after_steps p x (k + n) ≡ after_steps p x n
stays_after p x n k no_step =
    let swap : k + n ≡ n + k =
    omega arith in rw (swap, later_on p x k n) (stays p x (after_steps p x n) no_step k)

module _ (p q : Parts) (K : PlacePairs) (r : ℕ) (o x y : List ℕ) (closed : AreTwinPrograms p q K)
    (inputs : (k : ℕ) → slice_get x (r + k) ≡ slice_get y k) where
  abbrev Twins : Configuration → Configuration → Type 0
  Twins c d = AreTwinsAfter q K r o c d

  -- a step, or none on both sides
  both_led : (c d : Configuration) (a b : Transition) → Twins c d → AreTwinTransitions q K r o a b
      → Twins (led c a) (led d b)
  both_led c d (Goes c2) (Goes d2) h t = t
  both_led c d (Stops e) (Stops e2) h t = h
  both_led c d Waiting Waiting h t = h
  both_led c d Stuck Stuck h t = h
  both_led c d (Goes c2) (Stops b) h t = absurd t
  both_led c d (Goes c2) Waiting h t = absurd t
  both_led c d (Goes c2) Stuck h t = absurd t
  both_led c d (Stops e) (Goes b) h t = absurd t
  both_led c d (Stops e) Waiting h t = absurd t
  both_led c d (Stops e) Stuck h t = absurd t
  both_led c d Waiting (Goes b) h t = absurd t
  both_led c d Waiting (Stops b) h t = absurd t
  both_led c d Waiting Stuck h t = absurd t
  both_led c d Stuck (Goes b) h t = absurd t
  both_led c d Stuck (Stops b) h t = absurd t
  both_led c d Stuck Waiting h t = absurd t

  of_detour : (c d : Configuration) → Detours q K r o y c d
      → Twins (led c (transition p x c))
      (led (led d (transition q y d)) (transition q y (led d (transition q y d))))
  of_detour c d w =
      let go = w.goes in
      rw go (both_led _ _ _ _ w.twins
      (settled_twins p q K r o x y closed _ _ w.twins inputs w.settled))

  -- each step of p is one or two of q
  pub of_p : (c d : Configuration) → Twins c d → (n : ℕ)
      → (m : ℕ) × Twins (later p x n c) (later q y m d)
  unfolding later
  of_p c d h zero = (0, h)
  of_p c d h (suc n) =
      let (m, twin) = of_p c d h n in
      elim (settles p q K r o x y closed (later p x n c) (later q y m d) twin) [
        | inl settled ↦ (
          suc m,
          both_led _ _ _ _ twin
              (settled_twins p q K r o x y closed _ _ twin inputs settled),
        )
        | inr detour ↦ (suc (suc m), of_detour (later p x n c) (later q y m d) detour)
      ]

  -- each step of q is one of p, or none
  pub of_q : (c d : Configuration) → Twins c d → (n : ℕ)
      → (m : ℕ) × Twins (later p x m c) (later q y n d)
  unfolding later
  of_q c d h zero = (0, h)
  of_q c d h (suc n) =
      let (m, twin) = of_q c d h n in
      elim (settles p q K r o x y closed (later p x m c) (later q y n d) twin) [
        | inl settled ↦ (
          suc m,
          both_led _ _ _ _ twin
              (settled_twins p q K r o x y closed _ _ twin inputs settled),
        )
        | inr detour ↦ (m, (let go = detour.goes in rw go detour.twins))
      ]

  -- ---- outputs

  module _ (laws : RunLaws) (c d : Configuration) (h : Twins c d) (steps thaw : ℕ)
      (reached : after_steps p x steps ≡ c) (thawed : after_steps q y thaw ≡ d) where
    p_later : (n : ℕ) → after_steps p x (steps + n) ≡ later p x n c
    p_later n = rw (later_on p x n steps, reached) refl

    q_later : (n : ℕ) → after_steps q y (thaw + n) ≡ later q y n d
    q_later n = rw (later_on q y n thaw, thawed) refl

    p_out : (n : ℕ) → out p x (steps + n) ≡ (later p x n c).output
    unfolding out
    p_out n = ap (λ (b : Configuration). b.output) (p_later n)

    q_out : (n : ℕ) → out q y (thaw + n) ≡ (later q y n d).output
    unfolding out
    q_out n = ap (λ (b : Configuration). b.output) (q_later n)

    from_here : (z : List ℕ) (n m : ℕ) → Twins (later p x m c) (later q y n d)
        → IsPrefix z (out q y (thaw + n))
        → IsPrefix (o ++ z) (out p x (steps + m))
    from_here z n m twin h = let e = p_out m in let e2 = q_out n in let output =
        twin.output in rw (e, output) (before o z _ (rw e2 at h))

    to_here : (z : List ℕ) (n m : ℕ) → Twins (later p x n c) (later q y m d)
        → IsPrefix (o ++ z) (out p x (steps + n))
        → IsPrefix z (out q y (thaw + m))
    to_here z n m twin h = let e = p_out n in let e2 = q_out m in let output =
        twin.output in rw e2 (after o z _ (rw (e, output) at h))

    pub outputs_from : (z : List ℕ) → IsOutput q y z → IsOutput p x (o ++ z)
    outputs_from z (n, within) =
        let twin = of_q c d h n in (
          steps + twin.0,
          from_here z n twin.0 twin.1
              (laws.through z _ _ within (laws.grows q y n (thaw + n) (omega arith))),
        )

    pub outputs_to : (z : List ℕ) → IsOutput p x (o ++ z) → IsOutput q y z
    outputs_to z (n, within) =
        let twin = of_p c d h n in (
          thaw + twin.0,
          to_here z n twin.0 twin.1
              (laws.through (o ++ z) _ _ within (laws.grows p x n (steps + n) (omega arith))),
        )

    -- ---- ends and waits

    -- what p has after n steps from the start without a further one, q has a twin of
    p_stopped : (n : ℕ) → ((b : Configuration) → transition p x (after_steps p x n) ≡ Goes b → ⊥)
        → later p x n c ≡ after_steps p x n
    p_stopped n no_step = let e = stays_after p x n steps no_step in let l = p_later n in cc

    q_stopped : (n : ℕ) → ((b : Configuration) → transition q y (after_steps q y n) ≡ Goes b → ⊥)
        → later q y n d ≡ after_steps q y n
    q_stopped n no_step = let e = stays_after q y n thaw no_step in let l = q_later n in cc

    detour_at : (n m : ℕ) → later p x n c ≡ after_steps p x n
        → Detours q K r o y (later p x n c) (later q y m d)
        → AreTwinTransitions q K r o (transition p x (after_steps p x n))
        (transition q y (after_steps q y (thaw + suc m)))
    unfolding later
    detour_at n m e w =
        let l = q_later (suc m) in
        let go = w.goes in
        rw (l, go) (rw e at (settled_twins p q K r o x y closed _ _ w.twins inputs w.settled))

    -- q comes to a configuration whose transition is p's
    pub alike_to : (n : ℕ) → ((b : Configuration) → transition p x (after_steps p x n) ≡ Goes b → ⊥)
        → (m : ℕ) × AreTwinTransitions q K r o (transition p x (after_steps p x n))
        (transition q y (after_steps q y m))
    alike_to n no_step =
        let twin = of_p c d h n in
        let e = p_stopped n no_step in
        let l = q_later twin.0 in
        elim (settles p q K r o x y closed (later p x n c) (later q y twin.0 d) twin.1) [
          | inl settled ↦ (
            thaw + twin.0,
            rw l
                (rw e at (settled_twins p q K r o x y closed _ _ twin.1 inputs settled)),
          )
          | inr detour ↦ (thaw + suc twin.0, detour_at n twin.0 e detour)
        ]

    pub alike_from : (n : ℕ) →
        ((b : Configuration) → transition q y (after_steps q y n) ≡ Goes b → ⊥)
        → (m : ℕ) × AreTwinTransitions q K r o (transition p x (after_steps p x m))
        (transition q y (after_steps q y n))
    alike_from n no_step =
        let twin = of_q c d h n in
        let e = q_stopped n no_step in
        let l = p_later twin.0 in
        elim (settles p q K r o x y closed (later p x twin.0 c) (later q y n d) twin.1) [
          | inl settled ↦ (
            steps + twin.0,
            rw l
                (rw e at (settled_twins p q K r o x y closed _ _ twin.1 inputs settled)),
          )
          | inr detour ↦ absurd (no_step detour.next (let go = detour.goes in rw e at go))
        ]
