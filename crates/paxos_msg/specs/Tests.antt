-- Propositions of the rules as tests, which a function can compute.
use Rattle.std.specs.Prelude.{ℕ, ◌*◌, ◌==◌, nat_eq, nat_lt, Bool, true, false, ◌&&◌, ◌||◌}
use Rattle.std.specs.Cmp.Lexicographic.{pointwise}
use Rattle.paxos_msg.specs.declared.ballot.Ballot.{Ballot}
use Rattle.paxos_msg.specs.declared.value.Value.{Value}
use Rattle.paxos_msg.specs.declared.value.Value.TheVariants.{Noop, Keys}
use Rattle.paxos_msg.specs.Ballots.{count_of}

-- True if ballot `a` is below ballot `b`.
abbrev pub ballot_lt : Ballot → Ballot → Bool
ballot_lt a b = nat_lt a.round b.round || ((a.round == b.round) && nat_lt a.node b.node)

-- True if the two ballots are equal.
abbrev pub same_ballot : Ballot → Ballot → Bool
same_ballot a b = (a.round == b.round) && (a.node == b.node)

-- True if the two values are equal.
abbrev pub same_value : Value → Value → Bool
same_value Noop Noop = true
same_value Noop (Keys node start first bytes) = false
same_value (Keys node start first bytes) Noop = false
same_value (Keys node start first bytes) (Keys n s f b) =
    (node == n) && ((start == s) && ((first == f) && pointwise nat_eq bytes b))

-- True if the members are a majority of the nodes 1 to `size`.
abbrev pub is_majority : ℕ → (ℕ → Bool) → Bool
is_majority size members = nat_lt size (2 * count_of members size)
