-- A set of nodes, and the word that has their bits.
use Rattle.std.proofs.Common.{◌≡◌, ℕ, zero, suc, Bool, ◌+◌, ◌/◌, ◌%◌, ◌^◌, ◌<◌, ◌≤◌, ◌==◌, true, false, bit_or, get_or, set, arith}
use Rattle.std.specs.Int.Count.{ones, ones_step}
use Rattle.std.specs.Int.{bit_at}
use Rattle.std.proofs.lemmas.Nat.{mod-pow-add, mod_below, ones-le, ones_cat, or_comm, or_shr, pow_pos}
use Rattle.std.proofs.lemmas.Nat.Bits.{bit_at-suc, bit_at_lowest, bit_at_or}
use Rattle.std.proofs.lemmas.Bool.Decides.{nat_tests}
use Rattle.paxos_msg.specs.Ballots.{count_of}
use Rattle.paxos_learner.specs.Masks.{low_bits, nodes_of}
use Rattle.paxos_learner.specs.Tallies.{has_node}

-- ---- whether a node is there

low_bit : (k mask i : ℕ) → i < k → get_or (low_bits k mask) i false ≡ (bit_at mask i == 1)
unfolding low_bits
low_bit zero mask i h = absurd (omega arith)
low_bit (suc k) mask zero h = grind (arith, bit_at_lowest mask)
low_bit (suc k) mask (suc i) h = grind (arith, bit_at-suc mask i, low_bit k (mask / 2) i)

pub bit_node : (mask i : ℕ) → i ≤ 9 → has_node (nodes_of mask) i ≡ (bit_at mask i == 1)
unfolding nodes_of
bit_node mask i h = low_bit 10 mask i (omega arith)

-- ---- a node more

pub low_bit_set : (k mask i : ℕ) → i < k → low_bits k (bit_or mask (2 ^ i)) ≡ set (low_bits k mask) i true
unfolding low_bits
low_bit_set zero mask i h = absurd (omega arith)
low_bit_set (suc k) mask zero h = grind (arith, nat_tests, bit_at_or mask 1 0, or_shr mask 1 1, or_comm (mask / 2) 0)
low_bit_set (suc k) mask (suc i) h =
    grind (arith, nat_tests, bit_at_or mask (2 ^ suc i) 0, or_shr mask (2 ^ suc i) 1, low_bit_set k (mask / 2) i (omega arith))

-- ---- how many of the first nodes are there

pub count_low : (mask n : ℕ) → n ≤ 9 → ones (mask / 2 % 2 ^ n) ≡ count_of (has_node (nodes_of mask)) n
count_low mask zero h = omega (arith, ones-le 0 (mask / 2 % 2 ^ 0) (omega arith))
count_low mask (suc n) h =
    let q = mask / 2 in
    let one : suc n ≡ 1 + n = omega arith in
    let parts = ones_cat n (q / 2 ^ n % 2) (q % 2 ^ n) (mod_below q (2 ^ n) (pow_pos n)) in
    let bits = ones_step (q / 2 ^ n % 2) in
    let none = ones-le 0 0 (omega arith) in
    grind (arith, nat_tests, one, mod-pow-add q 1 n, parts, bits, none, count_low mask n, bit_node mask (suc n) h, bit_at-suc mask n)

-- there are no more than those that are looked at
pub count_within : (members : ℕ → Bool) (n : ℕ) → count_of members n ≤ n
count_within members zero = omega arith
count_within members (suc n) = grind (arith, nat_tests, count_within members n)
