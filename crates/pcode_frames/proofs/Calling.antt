-- A call or a start that is not refused.
use Rattle.std.proofs.Common.{◌≡◌, Result, Ok, IsOk, arith}

-- where nothing is refused there is a value
pub ok_value : {X E : Type 0} (r : Result X E) → IsOk r → (x : X) × (r ≡ Ok x)
ok_value r h = grind arith
