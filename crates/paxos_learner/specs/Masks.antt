-- Sets of nodes as the bits of one word.
use Rattle.std.specs.Prelude.{◌≡◌, ℕ, zero, suc, ◌+◌, ◌*◌, ◌/◌, ◌%◌, ◌<◌, ◌^◌, ◌==◌, Bool, List, [], ◌∷◌, cond}
use Rattle.paxos_msg.specs.declared.limits.TheConstants.{MOST_NODES}
use Rattle.std.proofs.Common.{refl, arith}
use Rattle.std.proofs.Math.Nat.{pow-suc}

-- True for each of the lowest `k` bits that is set, from the lowest on.
unfoldable pub low_bits : ℕ → ℕ → List Bool
low_bits zero mask = []
low_bits (suc k) mask = (mask % 2 == 1) ∷ low_bits k (mask / 2)

-- True for each node, 0 to the greatest, whose bit is set.
-- Allows: Node 3, at bit value 8; a word of 1,024 or more, whose higher bits do not count.
unfoldable pub nodes_of : ℕ → List Bool
nodes_of mask = low_bits (MOST_NODES + 1) mask

-- The word with these bits, from the lowest on.
unfoldable pub mask_of : List Bool → ℕ
mask_of [] = 0
mask_of (b ∷ bs) = cond b 1 0 + 2 * mask_of bs

-- The nodes alone determine the word.

bit_back : (r : ℕ) → r < 2 → cond (r == 1) 1 0 ≡ r
bit_back zero h = refl
bit_back (suc zero) h = refl
bit_back (suc (suc r)) h = absurd (omega arith)

low_bits_back : (k mask : ℕ) → mask < 2 ^ k → mask_of (low_bits k mask) ≡ mask
unfolding low_bits mask_of
low_bits_back zero mask h = omega arith
low_bits_back (suc k) mask h =
    omega (
      arith,
      bit_back (mask % 2) (omega arith),
      low_bits_back k (mask / 2)
          (omega (arith, pow-suc 2 k)),
    )

pub mask_back : (mask : ℕ) → mask < 2 ^ (MOST_NODES + 1) → mask_of (nodes_of mask) ≡ mask
unfolding nodes_of
mask_back mask h = low_bits_back (MOST_NODES + 1) mask h
