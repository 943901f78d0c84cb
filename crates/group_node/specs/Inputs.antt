-- The input that a group has chosen.
use Rattle.std.specs.Prelude.{◌≡◌, ℕ, List, length, slice_get, Some}
use Rattle.paxos_msg.specs.declared.value.Value.{Value}
use Rattle.paxos_msg.specs.Batches.{Sent}
use Rattle.paxos_msg.specs.Chosen.{IsChosen}
use Rattle.paxos_learner.specs.Input.{input_of}

-- The values that are chosen at the places 0, 1, 2 and so on.
-- Source: Simple 2.2.
-- Allows: fewer values than are chosen.
-- Forbids: a hole.
pub record AreChosen (size : ℕ) (sent : Sent) (values : List Value) : Type 0 where
  pub chosen : (s : ℕ) (v : Value) → slice_get values s ≡ Some v → IsChosen size sent s v

-- The input `x` that is chosen.
-- It has the bytes of the keys, each once, of the chosen values up to the first place at which
-- nothing is chosen.
-- Source: Simple 3, commands are executed in order.
-- Allows: that no node knows of it.
-- Forbids: a value from above a hole.
pub record IsInput (size : ℕ) (sent : Sent) (x : List ℕ) : Type 0 where
  pub values : List Value
  pub chosen : AreChosen size sent values
  pub over : (v : Value) → ¬ IsChosen size sent (length values) v
  pub bytes : x ≡ input_of values
