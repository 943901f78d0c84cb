-- The front: there is one least place that isn't learned, and the definition finds it.
use Rattle.std.proofs.Common.{◌≡◌, ℕ, ◌+◌, ◌<◌, ◌≤◌, true, T, List, [], ◌∷◌, map, None, Some, is_some, arith}
use Rattle.std.specs.Ordering.{nat_cmp}
use Rattle.std.specs.FinMap.{FinMap, entries, entries_sorted, find, is_sorted, get-entries}
use Rattle.std.specs.FinMap.Entries.{below_all}
use Rattle.std.proofs.lemmas.Bool.Decides.{nat_tests}
use Rattle.paxos_msg.specs.declared.value.Value.{Value}
use Rattle.paxos_learner.specs.Learner.{first_missing, front_of, IsFront}

-- what is found among entries after place x is at a place above it
pub found_above : (x q : ℕ) (es : List (ℕ × Value)) (v : Value) → T (below_all nat_cmp x es) → find nat_cmp q es ≡ Some v → x < q
found_above x q [] v below e = absurd cc
found_above x q (f ∷ es) v below e = grind (arith, nat_tests, found_above x q es v)

-- the search never goes back
from_start : (s : ℕ) (ks : List ℕ) → s ≤ first_missing s ks
from_start s [] = omega arith
from_start s (k ∷ ks) = grind (arith, nat_tests, from_start (s + 1) ks)

-- each place from s on that is below the first missing one is there
here_below : (s i : ℕ) (es : List (ℕ × Value)) → s ≤ i → i < first_missing s (map (λ e. e.0) es)
    → is_some (find nat_cmp i es) ≡ true
here_below s i [] low high = absurd (omega arith)
here_below s i (e ∷ es) low high = grind (arith, nat_tests, here_below (s + 1) i es)

-- and that one isn't, if none of them is below s
first_is_missing : (s : ℕ) (es : List (ℕ × Value)) → T (is_sorted nat_cmp es)
    → ((q : ℕ) (v : Value) → find nat_cmp q es ≡ Some v → s ≤ q) → find nat_cmp (first_missing s (map (λ e. e.0) es)) es ≡ None
first_is_missing s [] sorted from = grind arith
first_is_missing s (e ∷ es) sorted from =
    let parts : T (below_all nat_cmp e.0 es) × T (is_sorted nat_cmp es) = grind (arith, nat_tests) in
    let rest = first_is_missing (e.0 + 1) es parts.1 (λ q v found. omega (arith, found_above e.0 q es v parts.0 found)) in
    grind (arith, from e.0 e.1, from_start (s + 1) (map (λ f. f.0) es), λ (v : Value). found_above e.0 s es v parts.0)

-- what the definition finds is the front
pub IsFront-front_of : (m : FinMap nat_cmp Value) → IsFront m (front_of m)
IsFront-front_of m = grind (arith, get-entries, here_below 0, first_is_missing 0 (entries m) (entries_sorted m))

-- there is no other front
pub front_found : (m : FinMap nat_cmp Value) (f : ℕ) → IsFront m f → f ≡ front_of m
front_found m f h = let found : IsFront m (front_of m) = IsFront-front_of m in grind (arith, nat_tests)
