-- Chosen values, and sets of nodes as lists.
use Rattle.std.specs.Prelude.{ℕ, ◌==◌, Bool, IsTrue, List}
use Rattle.std.specs.List.{list_any}
use Rattle.paxos_msg.specs.declared.ballot.Ballot.{Ballot}
use Rattle.paxos_msg.specs.declared.message.Body.TheVariants.{Accepted}
use Rattle.paxos_msg.specs.Ballots.{IsMajority}
use Rattle.paxos_msg.specs.Messages.{Sent, IsSent}

-- Value `v` is chosen at place `s` by ballot `b`. Each member of one majority has sent that it
-- accepted `v` there under `b`.
-- Source: Simple 2.1 and 2.2.
-- Allows: Nobody knows of it.
-- Forbids: A majority put together from two ballots, or one node's Accepted counted twice.
abbrev pub IsChosenBy : {V : Type 0} → ℕ → Sent V → Ballot → ℕ → V → Type 0
IsChosenBy size sent b s v =
    (members : ℕ → Bool) × IsMajority size members
    × ((i : ℕ) → IsTrue (members i) → IsSent sent i (Accepted b s v))

-- Value `v` is chosen at place `s` by some ballot.
-- Source: Simple 2.1 and 2.2.
abbrev pub IsChosen : {V : Type 0} → ℕ → Sent V → ℕ → V → Type 0
IsChosen size sent s v = (b : Ballot) × IsChosenBy size sent b s v

-- True if the node is in the list, once or more.
abbrev pub is_listed : List ℕ → ℕ → Bool
is_listed nodes i = list_any (λ node. node == i) nodes
