-- The count of a device's faults.
use Rattle.std.specs.Prelude.{◌≡◌, ℕ, ◌+◌, min, MatchResult, Result}

-- The relation of a count of faults and the count after one more.
-- Allows: a count at its greatest value, 18,446,744,073,709,551,615, which stays there.
abbrev pub HasRisen : ℕ → ℕ → Type 0
HasRisen before now = now ≡ min (before + 1) 18446744073709551615

-- A call that counts its fault: the count has risen if the call failed, and else is the same.
abbrev pub CountsFault : {A E : Type 0} → ℕ → ℕ → Result A E → Type 0
CountsFault before now result = MatchResult result (λ _. now ≡ before) (λ _. HasRisen before now)
