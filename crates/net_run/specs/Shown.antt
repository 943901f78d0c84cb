-- A node whose output is shown on a console.
use Rattle.std.specs.Prelude.{◌≡◌, ℕ, ◌+◌, ◌<◌, List, length, Result, Ok, Err}
use Rattle.group_node.specs.NodeCalls.{running, unreleased_by}
use Rattle.group_node.specs.States.{NodeState}
use Rattle.group_wire.specs.Turns.{released_by}
use Rattle.node_io.specs.declared.fault.GroupFault.{GroupFault}
use Rattle.node_io.specs.Refusals.{no_memory}

-- A console that shows what the node has released.
abbrev pub ShowsReleased : {S : Type 0} → List ℕ → NodeState S → Type 0
ShowsReleased bytes n = bytes ≡ released_by n

-- A release of the first `count` bytes that wait, and of no others.
pub record ReleasesFirst {S : Type 0} (count : ℕ) (old new : NodeState S) : Type 0 where
  pub progress :
      new.progress ≡ record old.progress { released = old.progress.released + count }
  pub protocol : new.protocol ≡ old.protocol

-- A release of all output that waits, or of the first of it, as far as there is memory to show it.
abbrev pub HasShownAll : {S : Type 0} → NodeState S → NodeState S → Result (Unit {0}) GroupFault
    → Type 0
HasShownAll old new (Ok x) = ReleasesFirst (length (unreleased_by (running old))) old new
HasShownAll old new (Err e) =
    (count : ℕ) × (count < length (unreleased_by (running old))) × ReleasesFirst count old new
    × (e ≡ no_memory)
