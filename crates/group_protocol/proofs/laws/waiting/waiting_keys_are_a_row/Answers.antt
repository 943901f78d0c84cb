-- The keys that wait are a row: those that are typed come last, and the first ones leave as they are read.
use Rattle.std.proofs.Common.{◌≡◌, ℕ, zero, suc, ◌+◌, List, [], ◌∷◌, take, drop, All, Contains, refl, arith, Some}
use Rattle.std.proofs.lemmas.List.{take-append-drop}
use Rattle.std.proofs.lemmas.List.Elements.{All-nil, All-cons}
use Rattle.std.proofs.lemmas.Bool.Decides.{nat_tests}
use Rattle.base.proofs.Branches.{either_by}
use Rattle.paxos_msg.specs.declared.value.Value.{Value}
use Rattle.paxos_msg.specs.Keys.{Key, keys_from, keys_of}
use Rattle.paxos_learner.specs.Input.{has_key}
use Rattle.group_protocol.specs.Known.{Known}
use Rattle.group_protocol.specs.WaitingKeys.{batch_of, count_gone, count_read, waiting_keys}
use Rattle.group_protocol.proofs.WaitingKeys.{keys_from-append, keys_from-drop}
use Rattle.group_protocol.proofs.laws.waiting.waiting_keys_are_a_row.Goals as goal

-- the first keys are those of the first characters
keys_from-take : (node start serial n : ℕ) (xs : List ℕ)
    → keys_from node start serial (take n xs) ≡ take n (keys_from node start serial xs)
keys_from-take node start serial zero xs = refl
keys_from-take node start serial (suc n) [] = refl
keys_from-take node start serial (suc n) (x ∷ xs) =
    grind (arith, keys_from-take node start (serial + 1) n xs)

-- where characters wait, the keys of a batch are the first ones
batch_first : (n : Known) (bytes : List ℕ) (v : Value) → batch_of n bytes ≡ Some v
    → keys_of v ≡ take 32 (keys_from n.me.node n.kept.starts n.first bytes)
batch_first n [] v e = absurd cc
batch_first n (x ∷ xs) v e =
    grind (arith, keys_from-take n.me.node n.kept.starts n.first 32 (x ∷ xs))

module _ (c : goal.After-key_tests_are_exact) where
  -- of keys those up to the first that isn't read are read
  read_first : (read keys : List Key) → All (λ key. Contains read key) (take (count_read read keys) keys)
  read_first read [] = All-nil (λ (key : Key). Contains read key)
  read_first read (k ∷ keys) =
      either_by (λ n. All (Contains read) (take n (k ∷ keys))) (has_key read k)
      (λ t. All-cons (Contains read) k (take (count_read read keys) keys) ((c.key_tests_are_exact.ensures.has read k).0 t)
      (read_first read keys))
      (λ t. All-nil (Contains read))

  -- the first key that stays isn't read
  first_unread : (read keys : List Key) (k : Key) (ks : List Key) → drop (count_read read keys) keys ≡ k ∷ ks → ¬ Contains read k
  first_unread read [] k ks e = absurd cc
  first_unread read (x ∷ keys) k ks e = grind (arith, c.key_tests_are_exact.ensures.has, first_unread read keys k ks)

pub returns-clause-typed : goal.returns-clause-typed
returns-clause-typed c n byte = grind (arith, nat_tests, keys_from-append)

pub returns-clause-batch : goal.returns-clause-batch
returns-clause-batch c n v e = batch_first n n.waiting v e

pub returns-clause-gone : goal.returns-clause-gone
returns-clause-gone c n = (
  take (count_gone n) (waiting_keys n),
  grind (arith, keys_from-drop, take-append-drop (count_gone n) (waiting_keys n)),
  read_first c _ (waiting_keys n),
)

pub returns-clause-first : goal.returns-clause-first
returns-clause-first c n k ks e = grind (arith, nat_tests, first_unread c, keys_from-drop)
