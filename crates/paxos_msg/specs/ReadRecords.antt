-- What the records of some nodes, read together, say was chosen.
use Rattle.std.specs.Prelude.{◌≡◌, ℕ, Bool, List, length, slice_get, Option, Some, None}
use Rattle.std.specs.Option.{option_map}
use Rattle.paxos_msg.specs.declared.value.Value.{Value}
use Rattle.paxos_msg.specs.Batches.{Record, Vote}
use Rattle.paxos_msg.specs.Messages.{kept_vote_at}
use Rattle.paxos_msg.specs.Sending.{IsBest}

-- What is read at place `s` of the records of these nodes: the value that they have voted for there
-- under the greatest ballot, or none if they have no vote there.
-- Source: Simple 2.2, P2c, read off the records.
-- Allows: a value that is not chosen.
-- Forbids: a value under a smaller ballot.
pub record IsRead (members : ℕ → Bool) (records : ℕ → Record) (s : ℕ)
    (o : Option Value) : Type 0 where
  pub best : Option Vote
  pub is_best : IsBest members (λ i. kept_vote_at (records i).votes s) best
  pub value : o ≡ option_map (λ vote. vote.value) best

-- The values that are read at the places 0, 1 and so on, up to the first place with none.
-- Source: Simple 3, commands are carried out in order.
-- Forbids: a value from above a hole.
pub record AreRead (members : ℕ → Bool) (records : ℕ → Record) (values : List Value) : Type 0 where
  pub each : (s : ℕ) (v : Value) → slice_get values s ≡ Some v → IsRead members records s (Some v)
  pub over : IsRead members records (length values) None
