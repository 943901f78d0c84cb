-- What holds of both branches of a test.
use Rattle.std.proofs.Common.{◌≡◌, Bool, true, false, if◌then◌else◌, refl}

-- what holds of both values holds of the one that a test chooses
pub either : {X : Type 0} (P : X → Type 0) (t : Bool) {x y : X} → P x → P y → P (if t then x else y)
either P true h k = h
either P false h k = k

-- the same, where each value needs it only if it is the chosen one
pub either_by : {X : Type 0} (P : X → Type 0) (t : Bool) {x y : X} → (t ≡ true → P x) → (t ≡ false → P y) → P (if t then x else y)
either_by P true h k = h refl
either_by P false h k = k refl
