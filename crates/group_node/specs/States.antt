-- What contracts see of a node.
use Rattle.std.specs.Prelude.{ℕ, List}
use Rattle.paxos_learner.specs.Input.{learned_input}
use Rattle.group_protocol.specs.Known.{Known}
use Rattle.group_protocol.specs.States.{Protocol}
use Rattle.group_node.specs.Output.{Progress}

-- A node: its part in the protocol, and the progress of its machine.
pub record NodeState (S : Type 0) : Type 0 where
  pub protocol : Protocol S
  pub progress : Progress

-- The learned input of a node.
-- Source: Simple 3.
abbrev pub input : Known → List ℕ
input n = learned_input n.learner.learned
