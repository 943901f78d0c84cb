-- Keys as they are stored, and as they are seen.
use Rattle.std.proofs.Common.{◌≡◌, ◌==◌, ◌&&◌, Bool, ◌||◌, List, [], ◌∷◌, map, refl, arith}
use Rattle.std.proofs.lemmas.List.{map-append}
use Rattle.std.specs.List.{list_any}
use Rattle.std.proofs.lemmas.Bool.Decides.{nat_tests}
use Rattle.indexmap.specs.IndexSet.{insert_key}
use Rattle.paxos_learner.specs.declared.keys.TypedKey.{TypedKey}
use Rattle.paxos_learner.specs.Input.{same_key}
use Rattle.paxos_learner.specs.Entered.{key_of}

-- stored keys are compared field by field, from the serial on
pub same_stored : (a b : TypedKey)
    → (a.serial == b.serial)
    && ((a.start == b.start) && ((a.node == b.node) && (a.byte == b.byte))) ≡ same_key (key_of a) (key_of b)
same_stored a b = grind (arith, nat_tests)

-- a test that distinguishes stored keys as their models are distinguished
module _ (test : TypedKey → TypedKey → Bool) (alike : (a b : TypedKey) → test a b ≡ same_key (key_of a) (key_of b)) where
  -- a key is stored exactly if it is seen
  pub any_stored : (keys : List TypedKey) (k : TypedKey) → list_any (test k) keys ≡ list_any (same_key (key_of k)) (map key_of keys)
  any_stored [] k = refl
  any_stored (x ∷ keys) k = λ i. alike k x i || any_stored keys k i

  -- a key that is stored is seen among the keys
  pub insert_stored : (keys : List TypedKey) (k : TypedKey)
      → map key_of (insert_key test keys k) ≡ insert_key same_key (map key_of keys) (key_of k)
  insert_stored keys k = grind (arith, any_stored keys k, map-append)
