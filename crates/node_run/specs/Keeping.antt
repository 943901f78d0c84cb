-- What each part of a cycle but its turn and its release keeps.
use Rattle.std.specs.Prelude.{◌≡◌, false}
use Rattle.group_node.specs.States.{NodeState}
use Rattle.group_wire.specs.Turns.{SameReleased}

-- The node works: no save of its store has failed.
abbrev pub Works : {S : Type 0} → NodeState S → Type 0
Works n = n.protocol.is_stopped ≡ false

-- The machine is where it was, and what the node has released is the same.
-- Forbids: a step of the machine, and a release.
pub record KeepsOutput {S : Type 0} (old new : NodeState S) : Type 0 where
  pub stays : SameReleased old new
  pub progress : new.progress ≡ old.progress
