-- The view of a map from places.
use Rattle.std.specs.Prelude.{ℕ, List, refl}
use Rattle.std.specs.Coded.{Coded, code_by, coded×, coded_ℕ, coded_list}
use Rattle.std.specs.Ordering.{nat_cmp}
use Rattle.std.specs.FinMap.{FinMap, code}

-- A map from places, its places in the order of their indices, and how many more places have room.
pub record Places (V : Type 0) : Type 0 where
  pub map : FinMap nat_cmp V
  pub places : List ℕ
  pub room : ℕ

-- The code of such a view: the tuple of its fields.
abbrev pub places_code : {V : Type 0} → Coded V → Coded (Places V)
places_code {V} v =
    code_by (FinMap nat_cmp V × (List ℕ × ℕ))
    (coded× (code coded_ℕ v) (coded× (coded_list coded_ℕ) coded_ℕ))
    (λ p. (p.map, (p.places, p.room)))
    (λ p. record { map = p.0; places = p.1.0; room = p.1.1 }) (λ _. refl)
