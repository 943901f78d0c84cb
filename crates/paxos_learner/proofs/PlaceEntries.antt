-- A list of entries by place, and the finite map that it makes.
use Rattle.std.proofs.Common.{◌≡◌, ◌∙◌, ℕ, cond, nat_eq, List, [], ◌∷◌, slice_get, Some, Option, ◌==◌, refl, arith}
use Rattle.std.proofs.lemmas.Option.{get_or_from_slice_get, slice_get-map}
use Rattle.std.specs.Prelude.{slice_index}
use Rattle.std.specs.Map.{keys_of, lookup}
use Rattle.std.specs.Ordering.{nat_cmp}
use Rattle.std.specs.Cmp.{nat_cmp_total, unsigned_tied}
use Rattle.std.specs.FinMap.{FinMap, find, get, from_entries, get-from_entries, same_map, nat_cmp-IsAntisymmetric}
use Rattle.std.proofs.lemmas.Bool.Decides.{nat_tests}

module _ {V : Type 0} (es : List (ℕ × V)) where
  -- the place of the entry at an index
  pub place_at : (i s : ℕ) (v : V) → slice_get es i ≡ Some (s, v) → slice_index (keys_of es) i ≡ s
  place_at i s v h = grind (arith, slice_get-map (λ (e : ℕ × V). e.0) es i, get_or_from_slice_get (keys_of es) i s 0)

  -- the map has at a place what a search of the entries finds
  pub get_place : (q : ℕ) → get (from_entries {R = nat_cmp} es) q ≡ lookup (nat_eq q) es
  get_place q = get-from_entries nat_cmp_total es q ∙ searched es where
    searched : (fs : List (ℕ × V)) → find nat_cmp q fs ≡ lookup (nat_eq q) fs
    searched [] = refl
    searched (f ∷ fs) = λ i. cond (unsigned_tied q f.0 i) (Some f.1) (searched fs i)

-- entries that differ at one place make maps that differ there
pub changed_place : {V : Type 0} (es fs : List (ℕ × V)) (s : ℕ) (o : Option V) (m : FinMap nat_cmp V)
    → ((q : ℕ) → get m q ≡ cond (q == s) o (get (from_entries {R = nat_cmp} es) q))
    → ((q : ℕ) → lookup (nat_eq q) fs ≡ cond (nat_eq s q) o (lookup (nat_eq q) es)) → from_entries fs ≡ m
changed_place es fs s o m is h =
    same_map nat_cmp_total nat_cmp-IsAntisymmetric _ _ (λ q. grind (arith, nat_tests, h q, is q, get_place es q, get_place fs q))
