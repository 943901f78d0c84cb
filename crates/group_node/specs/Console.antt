-- A console: the bytes that it has shown.
use Rattle.std.specs.Prelude.{ℕ, ◌==◌, nat_lt, if◌then◌else◌, List, [], ◌∷◌, ◌++◌, length}
use Rattle.group_node.specs.declared.console.Offer.{Offer}
use Rattle.group_node.specs.declared.console.Offer.TheVariants.{Fresh, Repeat, Gap}

-- The answer to the byte of number `n`: it comes next, was shown already, or comes too early.
abbrev pub offer_answer : List ℕ → ℕ → Offer
offer_answer console n =
    if n == length console then Fresh else (if nat_lt n (length console) then Repeat else Gap)

-- The console after byte `b` was offered as number `n`.
-- Allows: a byte that is offered again.
-- Forbids: a byte shown twice, or over a gap.
abbrev pub offered : List ℕ → ℕ → ℕ → List ℕ
offered console n b = if n == length console then console ++ b ∷ [] else console

-- The bytes that a console has shown, and the number of bytes for which there is room.
pub record Shown : Type 0 where
  pub bytes : List ℕ
  pub room : ℕ
