-- A frozen program goes on as its original.
use Rattle.std.proofs.Common.{◌≡◌, ◌⊎◌, ◌↔◌, ℕ, suc, ◌+◌, List, [], ◌∷◌, ◌++◌, length, slice_get, refl, ap, inl, inr, arith}
use Rattle.pcode_file.specs.Parts.{Parts}
use Rattle.pcode_machine.specs.declared.turn.End.{End}
use Rattle.pcode_machine.specs.declared.turn.End.TheVariants.{Normal, Error}
use Rattle.pcode_machine.specs.Configuration.{Configuration}
use Rattle.pcode_machine.specs.Transition.{Transition, Goes, Stops, Waiting, Stuck, transition}
use Rattle.pcode_machine.specs.Runs.{IsPrefix, IsOutput, after_steps, out}
use Rattle.pcode_frozen.specs.declared.pairs.Pair.{Pair}
use Rattle.pcode_frozen.specs.Twins.{PlacePairs, listed}
use Rattle.pcode_frozen.specs.States.{AreTwinEnds, AreTwinTransitions}
use Rattle.pcode_frozen.specs.Goes.{HasEnd, WaitsAfter, IsFrozenAfter, AreListedOnce}
use Rattle.pcode_frozen.proofs.MachineLaws.{RunLaws}
use Rattle.pcode_frozen.proofs.Running.{outputs_from, outputs_to, alike_to, alike_from}

-- what comes after the first input
rest_there : (x y : List ℕ) (k : ℕ) → slice_get (x ++ y) (length x + k) ≡ slice_get y k
rest_there [] y k = let same : 0 + k ≡ k = omega arith in rw same refl
rest_there (a ∷ x) y k = let next : suc (length x) + k ≡ suc (length x + k) =
    omega arith in rw next (rest_there x y k)

-- ---- twin transitions

stop_of : (q : Parts) (K : PlacePairs) (r : ℕ) (o : List ℕ) (a b : Transition) (e : End)
    → a ≡ Stops e → AreTwinTransitions q K r o a b
    → (f : End) × (b ≡ Stops f) × AreTwinEnds K e f
stop_of q K r o (Goes c) b e is h = absurd cc
stop_of q K r o Waiting b e is h = absurd cc
stop_of q K r o Stuck b e is h = absurd cc
stop_of q K r o (Stops e2) (Stops f) e is h = (f, refl, (let same : e ≡ e2 = cc in rw same h))
stop_of q K r o (Stops e2) (Goes d) e is h = absurd h
stop_of q K r o (Stops e2) Waiting e is h = absurd h
stop_of q K r o (Stops e2) Stuck e is h = absurd h

stop_from : (q : Parts) (K : PlacePairs) (r : ℕ) (o : List ℕ) (a b : Transition) (f : End)
    → b ≡ Stops f → AreTwinTransitions q K r o a b
    → (e : End) × (a ≡ Stops e) × AreTwinEnds K e f
stop_from q K r o a (Goes c) f is h = absurd cc
stop_from q K r o a Waiting f is h = absurd cc
stop_from q K r o a Stuck f is h = absurd cc
stop_from q K r o (Stops e) (Stops f2) f is h = (e, refl, (let same : f ≡ f2 = cc in rw same h))
stop_from q K r o (Goes d) (Stops f2) f is h = absurd h
stop_from q K r o Waiting (Stops f2) f is h = absurd h
stop_from q K r o Stuck (Stops f2) f is h = absurd h

wait_of : (q : Parts) (K : PlacePairs) (r : ℕ) (o : List ℕ) (a b : Transition) → a ≡ Waiting
    → AreTwinTransitions q K r o a b → b ≡ Waiting
wait_of q K r o a b is h = grind arith

wait_from : (q : Parts) (K : PlacePairs) (r : ℕ) (o : List ℕ) (a b : Transition) → b ≡ Waiting
    → AreTwinTransitions q K r o a b → a ≡ Waiting
wait_from q K r o a b is h = grind arith

no_go : (t : Transition) (e : End) → t ≡ Stops e → (d : Configuration) → t ≡ Goes d → ⊥
no_go t e is d goes = absurd cc

no_wait_go : (t : Transition) → t ≡ Waiting → (d : Configuration) → t ≡ Goes d → ⊥
no_wait_go t is d goes = absurd cc

module _ (laws : RunLaws) (p q : Parts) (pairs : List Pair) (x : List ℕ) (c d : Configuration)
    (h : IsFrozenAfter p q pairs x c d) (y : List ℕ) where
  -- p comes to its configuration on the longer input too
  there : after_steps p (x ++ y) h.steps ≡ c
  there = laws.reached p (x ++ y) h.steps c (laws.longer p x y h.steps c h.reaches)

  -- and q to its own
  thawed : after_steps q y h.thaw ≡ d
  thawed = laws.reached q y h.thaw d (laws.longer q [] y h.thaw d h.thaws)

  -- the transitions of two configurations are alike
  abbrev AreAlike : ℕ → ℕ → Type 0
  AreAlike n m = AreTwinTransitions q (listed pairs) (length x) c.output
      (transition p (x ++ y) (after_steps p (x ++ y) n)) (transition q y (after_steps q y m))

  -- an output of q comes after what p had put out
  from : (z : List ℕ) → IsOutput q y z → IsOutput p (x ++ y) (c.output ++ z)
  from = outputs_from p q (listed pairs) (length x) c.output (x ++ y) y h.closed (rest_there x y)
      laws c d h.twins h.steps h.thaw there thawed

  -- what p puts out after that is an output of q
  to : (z : List ℕ) → IsOutput p (x ++ y) (c.output ++ z) → IsOutput q y z
  to = outputs_to p q (listed pairs) (length x) c.output (x ++ y) y h.closed (rest_there x y)
      laws c d h.twins h.steps h.thaw there thawed

  -- where p has no step q comes to the like
  on : (n : ℕ)
      → ((b : Configuration) → transition p (x ++ y) (after_steps p (x ++ y) n) ≡ Goes b → ⊥)
      → (m : ℕ) × AreAlike n m
  on = alike_to p q (listed pairs) (length x) c.output (x ++ y) y h.closed (rest_there x y)
      laws c d h.twins h.steps h.thaw there thawed

  -- where q has no step p comes to the like
  back : (n : ℕ) → ((b : Configuration) → transition q y (after_steps q y n) ≡ Goes b → ⊥)
      → (m : ℕ) × AreAlike m n
  back = alike_from p q (listed pairs) (length x) c.output (x ++ y) y h.closed (rest_there x y)
      laws c d h.twins h.steps h.thaw there thawed

  -- what was put out before
  old : IsOutput p (x ++ y) c.output
  unfolding out
  old =
      let e : out p (x ++ y) h.steps ≡ c.output = ap (λ (b : Configuration). b.output) there in
      (h.steps, rw e (laws.itself c.output))

  -- outputs after what p had put out
  pub outputs_go_on : (z : List ℕ) → IsOutput q y z ↔ IsOutput p (x ++ y) (c.output ++ z)
  outputs_go_on z = (from z, to z)

  -- each output of p is a front of what it had put out, or goes on as one of q
  pub no_other_output : (w : List ℕ) → IsOutput p (x ++ y) w
      → IsPrefix w c.output ⊎ ((z : List ℕ) × (w ≡ c.output ++ z) × IsOutput q y z)
  no_other_output w is =
      elim (laws.compared p (x ++ y) (x ++ y) w c.output (inl (laws.itself (x ++ y))) is old) [
        | inl less ↦ inl less
        | inr more ↦ inr (more.rest, more.whole, to more.rest (rw more.whole at is))
      ]

  -- an end of p is one of q
  pub ends_go_on : (e : End) → HasEnd p (x ++ y) e
      → (f : End) × HasEnd q y f × AreTwinEnds (listed pairs) e f
  ends_go_on e (n, is) =
      let like = on n (no_go _ e is) in
      let s = stop_of q (listed pairs) (length x) c.output _ _ e is like.1 in
      (s.0, (like.0, s.1), s.2)

  -- an end of q is one of p
  pub no_other_end : (f : End) → HasEnd q y f
      → (e : End) × HasEnd p (x ++ y) e × AreTwinEnds (listed pairs) e f
  no_other_end f (n, is) =
      let like = back n (no_go _ f is) in
      let s = stop_from q (listed pairs) (length x) c.output _ _ f is like.1 in
      (s.0, (like.0, s.1), s.2)

  -- p waits if q does, and the other way round
  pub waits_go_on : WaitsAfter p (x ++ y) ↔ WaitsAfter q y
  waits_go_on = (
    λ (n, is). let like = on n (no_wait_go _ is) in
        (like.0, wait_of q (listed pairs) (length x) c.output _ _ is like.1),
    λ (n, is). let like = back n (no_wait_go _ is) in
        (like.0, wait_from q (listed pairs) (length x) c.output _ _ is like.1),
  )

  -- an error of p at a place that is listed once
  error_there : AreListedOnce pairs → (n i m k number : ℕ) → listed pairs n i m k → (e : End)
      → HasEnd p (x ++ y) e → AreTwinEnds (listed pairs) e (Error number m k)
      → HasEnd p (x ++ y) (Error number n i)
  error_there once n i m k number here Normal ends twin = absurd twin
  error_there once n i m k number here (Error same a b) ends twin =
      let e = twin.0 in
      let places = once a b n i m k twin.1 here in
      let one : Error same a b ≡ Error number n i = cc (e, places.0, places.1) in
      rw one at ends

  -- an error of q is one of p at the place that is listed with its own
  pub errors_go_on : AreListedOnce pairs → (n i m k number : ℕ) → listed pairs n i m k
      → HasEnd q y (Error number m k) → HasEnd p (x ++ y) (Error number n i)
  errors_go_on once n i m k number here ends =
      let other = no_other_end (Error number m k) ends in
      error_there once n i m k number here other.0 other.1 other.2
