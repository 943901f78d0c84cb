-- Tallies of places that are not learned.
use Rattle.std.specs.Prelude.{ℕ, ◌+◌, ◌&&◌, Bool, List, replicate, slice_index_or, slice_set, Option, Some, None, if◌then◌else◌, false, true}
use Rattle.paxos_msg.specs.declared.ballot.Ballot.{Ballot}
use Rattle.paxos_msg.specs.declared.value.Value.{Value}
use Rattle.paxos_msg.specs.Tests.{ballot_lt, same_ballot, same_value}
use Rattle.paxos_msg.specs.declared.limits.TheConstants.{MOST_NODES}

-- The nodes that accepted the value under the ballot. `nodes` is true at the number of each.
-- Source: Simple 2.3.
pub record Tally : Type 0 where
  pub ballot : Ballot
  pub value : Value
  pub nodes : List Bool

-- The set without nodes.
abbrev pub no_nodes : List Bool
no_nodes = replicate (MOST_NODES + 1) false

-- True if node `i` is one of them.
abbrev pub has_node : List Bool → ℕ → Bool
has_node nodes i = slice_index_or nodes i false

-- The nodes with node `i` as well.
abbrev pub with_node : List Bool → ℕ → List Bool
with_node nodes i = slice_set nodes i true

-- A tally of node `i` alone.
abbrev pub begun_tally : ℕ → Ballot → Value → Tally
begun_tally i b v = record { ballot = b; value = v; nodes = with_node no_nodes i }

-- The tally with node `i` as well, if that is new.
abbrev pub joined_tally : Tally → ℕ → Option Tally
joined_tally t i =
    if has_node t.nodes i then None else Some (record t { nodes = with_node t.nodes i })

-- The tally at a place after node `i` has accepted `v` under `b`, if it changes. A greater ballot
-- begins a new tally. A smaller ballot, or another value under the same ballot, is ignored.
-- Source: Simple 2.3.
-- Allows: A node heard again, which changes nothing.
-- Forbids: Nodes of two ballots together.
abbrev pub tallied : Option Tally → ℕ → Ballot → Value → Option Tally
tallied None i b v = Some (begun_tally i b v)
tallied (Some t) i b v =
    if ballot_lt t.ballot b then Some (begun_tally i b v)
    else (if same_ballot t.ballot b && same_value t.value v then joined_tally t i else None)
