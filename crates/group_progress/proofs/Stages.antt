-- Stages of an endless run: what holds once and stays, and what is reached then.
use Rattle.std.proofs.Common.{◌≡◌, ◌⊎◌, inl, inr, ℕ, zero, suc, ◌+◌, ◌<◌, ◌≤◌, Bool, IsTrue, sym, subst, arith, false, true}
use Rattle.std.proofs.lemmas.Bool.{both_ways, cases_eq, cases_Bool}
use Rattle.group_progress.specs.Fair.{Later}

-- what holds stays
abbrev pub Stays : (ℕ → Type 0) → Type 0
Stays P = (n : ℕ) → P n → P (suc n)

pub from_then : (P : ℕ → Type 0) → Stays P → (n t : ℕ) → n ≤ t → P n → P t
from_then P stays n zero less h = let same : n ≡ 0 = omega (arith, less) in subst P same h
from_then P stays n (suc t) less h = elim (cases_eq n (suc t)) [
  | inl same ↦ subst P same h
  | inr other ↦ stays t (from_then P stays n t (omega (arith, less, other)) h)
]

pub now : {P : ℕ → Type 0} (n : ℕ) → P n → Later n P
now n h = (n, omega arith, h)

-- one stage and then the next
pub later_then : {P Q : ℕ → Type 0} (n : ℕ) → Later n P → ((t : ℕ) → n ≤ t → P t → Later t Q) → Later n Q
later_then n (t, less, h) more = let (u, further, g) = more t less h in (u, omega (arith, less, further), g)

-- both of two stages that stay
pub both_later : {P Q : ℕ → Type 0} (n : ℕ) → Stays P → Stays Q → Later n P → Later n Q → Later n (λ t. P t × Q t)
both_later {P} {Q} n keeps stays (t, less, h) (u, further, g) =
    let most : t ≤ t + u = omega arith in
    let more : u ≤ t + u = omega arith in
    (t + u, omega (arith, less), (from_then P keeps t (t + u) most h, from_then Q stays u (t + u) more g))

-- each node of some, if each does so at some time
pub all_later : (members : ℕ → Bool) (Q : ℕ → ℕ → Type 0) → ((i : ℕ) → Stays (Q i)) → (n size : ℕ)
    → ((i : ℕ) → 0 < i → i ≤ size → IsTrue (members i) → Later n (Q i))
    → Later n (λ t. (i : ℕ) → 0 < i → i ≤ size → IsTrue (members i) → Q i t)
all_later members Q stays n zero each = now n (λ i some low own. absurd (omega (arith, some, low)))
all_later members Q stays n (suc k) each =
    by (all_later members Q stays n k (λ i some low own. each i some (omega (arith, low)) own)) (cases_Bool (members (suc k))) where
      Low : ℕ → Type 0
      Low t = (i : ℕ) → 0 < i → i ≤ k → IsTrue (members i) → Q i t

      one : (t : ℕ) → Low t → (IsTrue (members (suc k)) → Q (suc k) t) → (i : ℕ) → 0 < i → i ≤ suc k → IsTrue (members i) → Q i t
      one t all here i some less own = elim (cases_eq i (suc k)) [
        | inl same ↦ subst (λ j. Q j t) (sym same) (here (subst (λ j. IsTrue (members j)) same own))
        | inr other ↦ all i some (omega (arith, less, other)) own
      ]

      by : Later n Low → (members (suc k) ≡ true) ⊎ (members (suc k) ≡ false) → Later n
          (λ t. (i : ℕ) → 0 < i → i ≤ suc k → IsTrue (members i) → Q i t)
      by low (inl is) =
          let both = both_later {P = Low} {Q = Q (suc k)} n (λ t all i some less own. stays i t (all i some less own)) (stays (suc k))
          low (each (suc k) (omega arith) (omega arith) is) in
          later_then n both (λ t less h. now t (one t h.0 (λ own. h.1)))
      by low (inr not) = later_then n low (λ t less h. now t (one t h (λ own. absurd (both_ways (members (suc k)) not own))))
