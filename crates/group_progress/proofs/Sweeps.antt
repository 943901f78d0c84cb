-- A row of numbers in which each number comes again and again: 0, then 0 1, then 0 1 2, and so on.
use Rattle.std.proofs.Common.{◌≡◌, ◌∙◌, ◌⊎◌, inl, inr, ℕ, zero, suc, ◌+◌, ◌*◌, ◌/◌, ◌%◌, ◌<◌, ◌≤◌, nat_lt, if◌then◌else◌, refl, ap, arith, false}
use Rattle.std.proofs.lemmas.Bool.{cases_lt, cond-true, cond-false, lt-ltb}
use Rattle.std.proofs.lemmas.Bool.Decides.{nat_tests}

-- a number of the row, and the last one before it begins anew
pub record Sweep : Type 0 where
  pub at : ℕ
  pub last : ℕ

-- the next one
onward : Sweep → Sweep
onward s = if nat_lt s.at s.last then record { at = s.at + 1; last = s.last } else record { at = 0; last = s.last + 1 }

-- the row
pub sweep : ℕ → Sweep
sweep zero = record { at = 0; last = 0 }
sweep (suc n) = onward (sweep n)

-- it goes up by one
goes_up : (s : Sweep) → s.at < s.last → onward s ≡ record { at = s.at + 1; last = s.last }
unfolding onward
goes_up s less = cond-true (nat_lt s.at s.last) _ _ (lt-ltb s.at s.last less)

-- a test of numbers
not_less : (a b : ℕ) → b ≤ a → nat_lt a b ≡ false
not_less a b low = grind (arith, nat_tests)

-- until it begins anew
begins_anew : (s : Sweep) → s.last ≤ s.at → onward s ≡ record { at = 0; last = s.last + 1 }
unfolding onward
begins_anew s low = cond-false (nat_lt s.at s.last) _ _ (not_less s.at s.last low)

-- the row by its steps
next_is : (n : ℕ) → sweep (suc n) ≡ onward (sweep n)
unfolding sweep
next_is n = refl

-- from some moment on the row begins anew, with more numbers
record Anew (n c : ℕ) : Type 0 where
  pub moment : ℕ
  pub later : n ≤ moment
  pub first : (sweep moment).at ≡ 0
  pub last : c ≤ (sweep moment).last

-- it begins anew at some moment
anew : (fuel n c : ℕ) → (sweep n).last ≤ (sweep n).at + fuel → c ≤ (sweep n).last → Anew n (suc c)
anew zero n c near more =
    let e = next_is n ∙ begins_anew (sweep n) (omega (arith, near)) in
    record {
      moment = suc n;
      later = omega arith;
      first = ap (λ (s : Sweep). s.at) e;
      last = omega
          (arith, ap (λ (s : Sweep). s.last) e, more);
    }
anew (suc fuel) n c near more = by (λ m. anew fuel m c) (cases_lt (sweep n).at (sweep n).last) where
  by : ((m : ℕ) → (sweep m).last ≤ (sweep m).at + fuel → c ≤ (sweep m).last → Anew m (suc c))
      → ((sweep n).at < (sweep n).last) ⊎ ((sweep n).last ≤ (sweep n).at) → Anew n (suc c)
  by again (inl less) =
      let e = next_is n ∙ goes_up (sweep n) less in
      let at : (sweep (suc n)).at ≡ (sweep n).at + 1 = ap (λ (s : Sweep). s.at) e in
      let last : (sweep (suc n)).last ≡ (sweep n).last = ap (λ (s : Sweep). s.last) e in
      let rest = again (suc n) (omega (arith, at, last, near)) (omega (arith, last, more)) in
      record { moment = rest.moment; later = omega (arith, rest.later); first = rest.first; last = rest.last }
  by again (inr full) =
      let e = next_is n ∙ begins_anew (sweep n) full in
      record {
        moment = suc n;
        later = omega arith;
        first = ap (λ (s : Sweep). s.at) e;
        last = omega
            (arith, ap (λ (s : Sweep). s.last) e, more);
      }

-- with as many numbers as are wanted
anew_with : (c n : ℕ) → Anew n c
anew_with zero n =
    let a = anew (sweep n).last n 0 (omega arith) (omega arith) in
    record { moment = a.moment; later = a.later; first = a.first; last = omega arith }
anew_with (suc c) n =
    let a = anew_with c n in
    let more = anew (sweep a.moment).last a.moment c (omega arith) a.last in
    record { moment = more.moment; later = omega (arith, a.later, more.later); first = more.first; last = more.last }

-- then it comes to each of them
climbs : (n : ℕ) → (sweep n).at ≡ 0 → (k : ℕ) → k ≤ (sweep n).last → ((sweep (n + k)).at ≡ k) × ((sweep (n + k)).last ≡ (sweep n).last)
climbs n first zero low = let same : n + 0 ≡ n = omega arith in (ap (λ m. (sweep m).at) same ∙ first, ap (λ m. (sweep m).last) same)
climbs n first (suc k) low =
    let (at, last) = climbs n first k (omega (arith, low)) in
    let same : n + suc k ≡ suc (n + k) = omega arith in
    let e = next_is (n + k) ∙ goes_up (sweep (n + k)) (omega (arith, at, last, low)) in (
      ap (λ m. (sweep m).at) same ∙ ap (λ (s : Sweep). s.at) e ∙ omega (arith, at),
      ap (λ m. (sweep m).last) same ∙ ap (λ (s : Sweep). s.last) e ∙ last,
    )

-- each number comes at some moment from each one on
pub comes : (c n : ℕ) → (t : ℕ) × (n ≤ t) × ((sweep t).at ≡ c)
comes c n =
    let a = anew_with c n in
    let (at, last) = climbs a.moment a.first c a.last in
    (a.moment + c, omega (arith, a.later), at)

-- ---- a number as two: a node, and the number of a message

-- the node of a number
pub node_part : (x i : ℕ) → i < 10 → (x * 10 + i) % 10 ≡ i
node_part x i few = omega arith

-- and the message
pub message_part : (x i : ℕ) → i < 10 → (x * 10 + i) / 10 ≡ x
message_part x i few = omega arith
