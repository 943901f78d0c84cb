-- The order of ballots, and majorities.
use Rattle.std.specs.Prelude.{◌≡◌, ℕ, zero, suc, ◌+◌, ◌*◌, ◌<◌, ◌≤◌, ◌⊎◌, Bool, if◌then◌else◌}
use Rattle.paxos_msg.specs.declared.ballot.Ballot.{Ballot}

-- The first ballot is below the second, by round and then by node.
-- Source: Simple 2.2, proposal numbers.
-- Allows: 1.3 below 2.1.
-- Forbids: 2.1 below 2.1.
abbrev pub IsBelow : Ballot → Ballot → Type 0
IsBelow b c = (b.round < c.round) ⊎ ((b.round ≡ c.round) × (b.node < c.node))

-- The first ballot is not above the second.
-- Source: Simple 2.2, proposal numbers.
abbrev pub IsAtMost : Ballot → Ballot → Type 0
IsAtMost b c = (b.round < c.round) ⊎ ((b.round ≡ c.round) × (b.node ≤ c.node))

-- The number of the nodes 1 to `n` that are members.
-- Source: Simple 2.2.
-- Allows: A member 0, which is no node and is not counted.
-- Forbids: A node counted twice.
abbrev pub count_of : (ℕ → Bool) → ℕ → ℕ
count_of members zero = 0
count_of members (suc n) = (if members (suc n) then 1 else 0) + count_of members n

-- The members are more than half of the nodes 1 to `size`.
-- Source: Simple 2.2.
-- Allows: 2 nodes of 3.
-- Forbids: 2 nodes of 4, or one node counted twice.
abbrev pub IsMajority : ℕ → (ℕ → Bool) → Type 0
IsMajority size members = size < 2 * count_of members size
