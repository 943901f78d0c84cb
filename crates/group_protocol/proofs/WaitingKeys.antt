-- The keys of characters that wait.
use Rattle.std.proofs.Common.{◌≡◌, ℕ, zero, suc, ◌+◌, List, [], ◌∷◌, ◌++◌, length, take, drop, All, Contains, refl, arith, add-zero}
use Rattle.std.proofs.lemmas.List.{take-append-drop}
use Rattle.std.proofs.lemmas.List.Elements.{All-nil, All-cons, All-contains, Contains-append_left, Contains-append_right}
use Rattle.std.proofs.lemmas.Bool.Decides.{nat_tests}
use Rattle.paxos_msg.specs.declared.value.Value.TheVariants.{Keys}
use Rattle.paxos_msg.specs.Batches.{IsTyped}
use Rattle.paxos_msg.specs.Keys.{Key, keys_from}

-- the keys of characters in two parts
pub keys_from-append : (node start serial : ℕ) (xs ys : List ℕ)
    → keys_from node start serial (xs ++ ys)
    ≡ keys_from node start serial xs ++ keys_from node start (serial + length xs) ys
keys_from-append node start serial [] ys = rw (add-zero serial) refl
keys_from-append node start serial (x ∷ xs) ys = grind (arith, nat_tests, keys_from-append node start (serial + 1) xs ys)

-- each is of the node
keys_own : (node start serial : ℕ) (xs : List ℕ) → All (λ (key : Key). key.node ≡ node) (keys_from node start serial xs)
keys_own node start serial [] = All-nil (λ (key : Key). key.node ≡ node)
keys_own node start serial (x ∷ xs) = grind (arith, nat_tests, All-cons, keys_own node start (serial + 1) xs)

-- a key of the first characters is one of all
pub first_keys : (node start serial n : ℕ) (xs : List ℕ) (key : Key)
    → Contains (keys_from node start serial (take n xs)) key → Contains (keys_from node start serial xs) key
first_keys node start serial n xs key h =
    rw (← take-append-drop n xs, keys_from-append node start serial (take n xs) (drop n xs)) (Contains-append_left _ _ key h)

-- the keys of the characters after some are those after their keys
pub keys_from-drop : (node start serial n : ℕ) (xs : List ℕ)
    → keys_from node start (serial + n) (drop n xs) ≡ drop n (keys_from node start serial xs)
keys_from-drop node start serial zero xs = rw (add-zero serial) refl
keys_from-drop node start serial (suc n) [] = refl
keys_from-drop node start serial (suc n) (x ∷ xs) = grind (arith, nat_tests, keys_from-drop node start (serial + 1) n xs)

-- a key of those after some is one of all
pub last_keys : (node start serial n : ℕ) (xs : List ℕ) (key : Key)
    → Contains (keys_from node start (serial + n) (drop n xs)) key → Contains (keys_from node start serial xs) key
last_keys node start serial n xs key h =
    rw (← take-append-drop n (keys_from node start serial xs))
    (Contains-append_right _ _ key (rw (keys_from-drop node start serial n xs) at h))

-- a batch of keys that were typed is typed at the node
pub batch_typed : (typed : List Key) (node start serial x : ℕ) (xs : List ℕ)
    → ((key : Key) → Contains (keys_from node start serial (x ∷ xs)) key → Contains typed key)
    → IsTyped typed node (Keys node start serial (x ∷ xs))
batch_typed typed node start serial x xs h = grind (arith, nat_tests, All-contains, keys_own)
