-- The keys of a batch are all of its node.
use Rattle.std.proofs.Common.{◌≡◌, ◌↔◌, ℕ, zero, suc, ◌+◌, ◌<◌, List, [], ◌∷◌, length, Contains, ap, refl, sym, arith}
use Rattle.paxos_msg.specs.declared.value.Value.TheVariants.{Keys}
use Rattle.paxos_msg.specs.Keys.{AreOwnKeys, batches, Key, keys_from}

-- each key of a batch is of its node
same_node : (node start first : ℕ) (bytes : List ℕ) (key : Key) → Contains (keys_from node start first bytes) key → key.node ≡ node
same_node node start first [] key (i, below, at) = absurd (omega arith)
same_node node start first (byte ∷ bytes) key (zero, below, at) = ap (λ (k : Key). k.node) (sym at)
same_node node start first (byte ∷ bytes) key (suc i, below, at) = same_node node start (first + 1) bytes key (i, omega arith, at)

-- the keys of a batch are own keys of the node that it names, and of no other
pub own_keys : (node start first i : ℕ) (bytes : List ℕ) → 0 < length bytes
    → AreOwnKeys batches i (Keys node start first bytes) ↔ (node ≡ i)
own_keys node start first i [] some = absurd (omega arith)
own_keys node start first i (byte ∷ bytes) some = (
  λ h. h.at_node (record { node = node; start = start; serial = first; byte = byte }) (0, omega arith, refl),
  λ e. record { has_key = λ none. absurd cc; at_node = λ key k. rw (← e) (same_node node start first (byte ∷ bytes) key k) },
)
