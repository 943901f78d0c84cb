-- Steps that may fail.
use Rattle.std.specs.Prelude.{Bool, Result, Ok, Err, if◌then◌else◌}

infixl 10 ◌>>=◌
-- The result of two steps: the first one's fault, or the result of the second on its value.
abbrev pub ◌>>=◌ : {A B E : Type 0} → Result A E → (A → Result B E) → Result B E
(Ok x) >>= f = f x
(Err e) >>= f = Err e

-- The value `x`, or the fault `e` if the test `b` holds.
abbrev pub unless : {A E : Type 0} → E → Bool → A → Result A E
unless e b x = if b then Err e else Ok x
