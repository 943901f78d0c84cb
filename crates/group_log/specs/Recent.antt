-- The datagrams that a trace names again by how many back they were written.
use Rattle.std.specs.Prelude.{◌≡◌, ◌≢◌, ℕ, suc, List, ◌∷◌, take, Option, Some, None, slice_get}
use Rattle.group_log.specs.declared.recent.TheConstants.{MOST_RECENT}

-- A datagram that is noted in such a list, the newest first. It is in the list so many back, and
-- the list stays as it is; or it is not, and then it is the newest one.
-- Forbids: another datagram's number, and a datagram that is written again.
abbrev pub IsNoted : List (List ℕ) → List ℕ → Option ℕ → List (List ℕ) → Type 0
IsNoted old bytes (Some back) new =
    (n : ℕ) × (back ≡ suc n) × (slice_get old n ≡ Some bytes) × (new ≡ old)
IsNoted old bytes None new =
    ((n : ℕ) → slice_get old n ≢ Some bytes) × (new ≡ take MOST_RECENT (bytes ∷ old))
