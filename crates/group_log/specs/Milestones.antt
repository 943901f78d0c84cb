-- What a node says once, as its session goes on.
use Rattle.std.specs.Prelude.{ℕ, List, [], ◌∷◌, filter, nat_le}
use Rattle.paxos_msg.specs.declared.limits.TheConstants.{PLACES}

-- A half, three quarters, nine tenths and all of the places.
abbrev pub marks : List ℕ
marks = 32768 ∷ 49152 ∷ 58983 ∷ PLACES ∷ []

-- The marks that so many places have reached.
abbrev pub marks_of : ℕ → List ℕ
marks_of places = filter (λ mark. nat_le mark places) marks
