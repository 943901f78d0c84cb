-- The view of a proposer, and its invariant.
use Rattle.std.specs.Prelude.{◌≡◌, ℕ, ◌+◌, ◌≤◌, All, List, length, slice_index, Some}
use Rattle.paxos_proposer.specs.Proposer.{Proposer, next_of, proposed_at}
use Rattle.paxos_msg.specs.declared.limits.TheConstants.{MOST_NODES, PLACES}
use Rattle.paxos_msg.specs.declared.value.Value.{Value}
use Rattle.paxos_msg.specs.Fits.{IsBallot, IsPlace, IsValue}

-- The view of a proposer: its knowledge, and how many more proposals are sure to find room.
pub record ProposerState : Type 0 where
  pub known : Proposer
  pub room : ℕ

-- Coverages that reach at most past the last place.
pub record AreInRange (coverages : List ℕ) : Type 0 where
  pub upto : (i : ℕ) → slice_index coverages i ≤ PLACES

-- The invariant of a proposer. A group has at most nine nodes, votes are kept from the next place
-- on, and at most all places have a proposal.
pub record IsProposer (p : Proposer) : Type 0 where
  pub few : p.size ≤ MOST_NODES
  pub nodes : length p.coverages ≡ 10
  pub reach : AreInRange p.coverages
  pub ahead : All (λ vote. next_of p ≤ vote.place) p.kept
  pub places : p.first + length p.values ≤ PLACES

-- ---- proposers whose proposals are in their ranges

-- A proposer whose ballot, coverages, kept values and proposals are in their ranges.
-- Allows: A proposer that has heard nothing.
-- Forbids: A kept vote for a key of no node.
pub record IsProposerInRange (p : Proposer) : Type 0 where
  pub ballot : IsBallot p.size p.ballot
  pub reach : AreInRange p.coverages
  pub kept : All (λ vote. IsValue p.size vote.value) p.kept
  pub proposed : (s : ℕ) (v : Value) → proposed_at p s ≡ Some v → IsPlace s × IsValue p.size v
