-- The number of decimal digits as a function of them.
use Rattle.std.proofs.Common.{◌≡◌, ℕ, ◌<◌, ◌^◌, List, length, Bool, true, false, refl}
use Rattle.std.specs.Prelude.{Option, Some, None, ◌&&◌, nat_lt, if◌then◌else◌}
use Rattle.std.specs.Option.{SomeIff}
use Rattle.std.specs.Str.{all_ascii_digits}
use Rattle.std.specs.Str.Parse.{IsNumeral, digits_value}
use Rattle.std.specs.Cmp.Derive.{both_true}
use Rattle.std.proofs.lemmas.Bool.{and_parts, ltb-true, lt-ltb}
use Rattle.std.proofs.lemmas.Str.Parse.{IsNumeralModel, numerals_by_value, tells_all_ascii_digits}
use Rattle.digits.specs.Digits.{decimal_of}

own : IsNumeralModel (λ ds. all_ascii_digits ds ≡ true) (digits_value 10)
own = numerals_by_value (λ ds. all_ascii_digits ds ≡ true) tells_all_ascii_digits

-- the test that `decimal_of` makes
abbrev is_number : ℕ → List ℕ → Bool
is_number bits ds = nat_lt 0 (length ds) && all_ascii_digits ds && nat_lt (digits_value 10 ds) (2 ^ bits)

-- what the test says
reads : (bits : ℕ) (ds : List ℕ) → is_number bits ds ≡ true → IsNumeral 10 ds × (digits_value 10 ds < 2 ^ bits)
reads bits ds e =
    let both = and_parts (nat_lt 0 (length ds) && all_ascii_digits ds) (nat_lt (digits_value 10 ds) (2 ^ bits)) e in
    let digits = and_parts (nat_lt 0 (length ds)) (all_ascii_digits ds) both.0 in
    ((ltb-true 0 (length ds) digits.0, own.to ds digits.1), ltb-true (digits_value 10 ds) (2 ^ bits) both.1)

tests : (bits : ℕ) (ds : List ℕ) → IsNumeral 10 ds × (digits_value 10 ds < 2 ^ bits) → is_number bits ds ≡ true
tests bits ds h = both_true (both_true (lt-ltb 0 (length ds) h.0.0) (own.from ds h.0.1)) (lt-ltb (digits_value 10 ds) (2 ^ bits) h.1)

chosen : (test : Bool) (n : ℕ) → test ≡ true → Some n ≡ (if test then Some n else None)
chosen test n e = rw e

left : (test : Bool) (n : ℕ) → (test ≡ true → ⊥) → None ≡ (if test then Some n else None)
left false n h = refl
left true n h = absurd (h refl)

pub decimal_from : (bits : ℕ) (ds : List ℕ) (r : Option ℕ)
    → SomeIff r (IsNumeral 10 ds × (digits_value 10 ds < 2 ^ bits)) (digits_value 10 ds) → r ≡ decimal_of bits ds
decimal_from bits ds None h = left (is_number bits ds) (digits_value 10 ds) (λ e. h (reads bits ds e))
decimal_from bits ds (Some n) h = rw h.1 (chosen (is_number bits ds) (digits_value 10 ds) (tests bits ds h.0))
