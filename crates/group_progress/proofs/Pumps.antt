-- How far a proposer pumps, and what it does when nothing more is kept.
use Rattle.std.proofs.Common.{◌≡◌, inl, inr, ℕ, zero, suc, ◌+◌, ◌<◌, ◌≤◌, nat_le, Bool, List, [], ◌∷◌, Option, Some, None, refl, arith, false, true}
use Rattle.std.proofs.lemmas.Bool.Decides.{nat_tests}
use Rattle.std.proofs.lemmas.Bool.{cases_Bool}
use Rattle.std.proofs.lemmas.List.{length_push}
use Rattle.paxos_msg.specs.declared.value.Value.{Value}
use Rattle.paxos_msg.specs.declared.value.Value.TheVariants.{Noop}
use Rattle.paxos_msg.specs.Batches.{Vote}
use Rattle.paxos_msg.specs.Messages.{kept_vote_at}
use Rattle.paxos_proposer.specs.Proposer.{Proposer, is_covered, is_kept_from, next_of, next_value, proposing}
use Rattle.group_protocol.specs.Pump.{pump, stop}
use Rattle.group_progress.proofs.Proposers.{AreBelow, below_filter, found_below, kept_below}

-- a proposer that has only proposed more, below this place
pub record Pumps (top : ℕ) (p q : Proposer) : Type 0 where
  pub ballot : q.ballot ≡ p.ballot
  pub size : q.size ≡ p.size
  pub coverages : q.coverages ≡ p.coverages
  pub first : q.first ≡ p.first
  pub kept : AreBelow top q.kept
  pub grows : next_of p ≤ next_of q
  pub within : next_of p ≤ top → next_of q ≤ top

-- a value is found only below the place
next_below : (top : ℕ) (p : Proposer) (v : Value) → AreBelow top p.kept → next_value p None ≡ Some v → next_of p < top
next_below top p v kept e = by (is_covered p (next_of p)) refl (kept_vote_at p.kept (next_of p)) refl where
  by : (t : Bool) → is_covered p (next_of p) ≡ t → (o : Option Vote) → kept_vote_at p.kept (next_of p) ≡ o → next_of p < top
  by false uncovered o at = let no : None ≡ Some v = rw uncovered at e in absurd cc
  by true covered (Some vote) at = found_below top (next_of p) p.kept vote kept at
  by true covered None at =
      elim (cases_Bool (is_kept_from p.kept (next_of p + 1))) [
        | inl above ↦ omega (arith, kept_below top (next_of p + 1) p.kept kept above)
        | inr none ↦ let no : None ≡ Some v = rw (covered, at, none) at e in absurd cc
      ]

pub next_after : (p : Proposer) (v : Value) → next_of (proposing p (Some v)) ≡ next_of p + 1
next_after p v = omega (arith, length_push p.values v)

pub pumps : (n top : ℕ) (p : Proposer) → AreBelow top p.kept → Pumps top p (pump n p).proposer
unfolding pump
pumps zero top p kept = record {
  ballot = refl;
  size = refl;
  coverages = refl;
  first = refl;
  kept = kept;
  grows = omega arith;
  within =
      λ h. h;
}
pumps (suc n) top p kept = by (λ q below. pumps n top q below) (next_value p None) refl where
  by : ((q : Proposer) → AreBelow top q.kept → Pumps top q (pump n q).proposer) → (o : Option Value) → next_value p None ≡ o
      → Pumps top p (pump (suc n) p).proposer
  by more None e =
      rw e (record { ballot = refl; size = refl; coverages = refl; first = refl; kept = kept; grows = omega arith; within = λ h. h })
  by more (Some v) e =
      let q : Proposer = proposing p (Some v) in
      let rest = more q (below_filter top (λ vote. nat_le (next_of p + 1) vote.place) p.kept kept) in
      let one = next_after p v in
      let low = next_below top p v kept e in
      rw e (record {
        ballot = rest.ballot;
        size = rest.size;
        coverages = rest.coverages;
        first = rest.first;
        kept = rest.kept;
        grows = omega (arith, rest.grows, one);
        within = λ h. rest.within (omega (arith, one, low));
      })

-- ---- a vote that is kept at the next place or above it

kept_on : (s : ℕ) (votes : List Vote) → kept_vote_at votes s ≡ None → is_kept_from votes s ≡ true → is_kept_from votes (s + 1) ≡ true
kept_on s [] none e = e
kept_on s (x ∷ xs) none e = grind (arith, nat_tests, kept_on s xs)

pub next_found : (p : Proposer) → is_covered p (next_of p) ≡ true → is_kept_from p.kept (next_of p) ≡ true
    → (v : Value) × (next_value p None ≡ Some v)
next_found p covered kept = by (kept_vote_at p.kept (next_of p)) refl where
  by : (o : Option Vote) → kept_vote_at p.kept (next_of p) ≡ o → (v : Value) × (next_value p None ≡ Some v)
  by (Some vote) at = (vote.value, rw (covered, at) refl)
  by None at = (Noop, rw (covered, at, kept_on (next_of p) p.kept at kept) refl)

pub pumps_more : (n top : ℕ) (p : Proposer) → AreBelow top p.kept → is_covered p (next_of p) ≡ true
    → is_kept_from p.kept (next_of p) ≡ true → next_of p < next_of (pump (suc n) p).proposer
unfolding pump
pumps_more n top p kept covered above =
    let found = next_found p covered above in
    let q : Proposer = proposing p (Some found.0) in
    let rest = pumps n top q (below_filter top (λ vote. nat_le (next_of p + 1) vote.place) p.kept kept) in
    rw found.1 (omega (arith, rest.grows, next_after p found.0))

-- ---- nothing is kept there any more

kept_not : (s : ℕ) (votes : List Vote) → is_kept_from votes s ≡ false → (kept_vote_at votes s ≡ None) × (is_kept_from votes (s + 1) ≡ false)
kept_not s [] e = (refl, refl)
kept_not s (x ∷ xs) e = grind (arith, nat_tests, kept_not s xs)

pub rests : (n : ℕ) (p : Proposer) → is_kept_from p.kept (next_of p) ≡ false → pump n p ≡ stop p
unfolding pump
rests zero p e = refl
rests (suc n) p e = by (is_covered p (next_of p)) refl where
  by : (t : Bool) → is_covered p (next_of p) ≡ t → pump (suc n) p ≡ stop p
  by false uncovered = rw uncovered refl
  by true covered = let none = kept_not (next_of p) p.kept e in rw (covered, none.0, none.1) refl

pub offers : (p : Proposer) (v : Value) → is_covered p (next_of p) ≡ true → is_kept_from p.kept (next_of p) ≡ false
    → next_value p (Some v) ≡ Some v
offers p v covered e = let none = kept_not (next_of p) p.kept e in rw (covered, none.0, none.1) refl
