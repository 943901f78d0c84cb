-- What a call may change, and with which faults it fails.
use Rattle.std.specs.Prelude.{◌≡◌, ◌⊎◌, List, [], ◌∷◌, Result, IfErr}
use Rattle.std.specs.Borrow.{MutBor}
use denote.Triple.Both.{Both}

-- What a call may change: its value before the call (`entry.now`) and after it (`exit.now`).
abbrev pub Mut : Type 0 → Type 0
Mut A = Both (MutBor A) (MutBor A)

-- The fault is one of these.
abbrev pub IsAmong : {E : Type 0} → List E → E → Type 0
IsAmong [] e = ⊥
IsAmong (x ∷ []) e = e ≡ x
IsAmong (x ∷ (y ∷ xs)) e = (e ≡ x) ⊎ IsAmong (y ∷ xs) e

-- The call fails only with these faults.
abbrev pub FailsOnlyWith : {T E : Type 0} → List E → Result T E → Type 0
FailsOnlyWith faults result = IfErr result (IsAmong faults)
