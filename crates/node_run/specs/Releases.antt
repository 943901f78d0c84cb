-- The release of a node's output to a writer.
use Rattle.std.specs.Prelude.{◌≡◌, ℕ, List, Option, Result, Ok, Err}
use Rattle.std.specs.Io.KnownBytes.{Appends}
use Rattle.group_node.specs.States.{NodeState, input}
use Rattle.machine_run.specs.Streams.{WritesPart}
use Rattle.node_io.specs.declared.fault.GroupFault.{GroupFault}
use Rattle.node_io.specs.Refusals.{write_failed}
use Rattle.node_run.specs.Output.{all_released, unreleased_from}

-- A moment of a node: the node, and what its writer holds, where that is known.
pub record NodeMoment (S : Type 0) : Type 0 where
  pub node : NodeState S
  pub written : Option (List ℕ)

-- A release of all output that waits. The bytes that were not seen are written.
-- Allows: no byte waits.
pub record WritesAll {S : Type 0} (seen : ℕ) (old new : NodeMoment S) : Type 0 where
  pub progress : new.node.progress ≡ all_released
      (input old.node.protocol.known) old.node.progress
  pub appended : Appends old.written new.written (unreleased_from seen
      (input old.node.protocol.known) old.node.progress)
  pub protocol : new.node.protocol ≡ old.node.protocol

-- A release at which a write fails: all output that waits is released. None or some first bytes of
-- those that were not seen are written, and the others are lost.
-- Forbids: a failure where nothing is lost.
pub record LosesOutput {S : Type 0} (seen : ℕ) (old new : NodeMoment S) : Type 0 where
  pub progress : new.node.progress ≡ all_released
      (input old.node.protocol.known) old.node.progress
  pub wrote : WritesPart old.written new.written (unreleased_from seen
      (input old.node.protocol.known) old.node.progress)
  pub protocol : new.node.protocol ≡ old.node.protocol

-- A release of all output, by its answer. At `Ok` the bytes that were not seen are written. At
-- `Err` at least one of them is lost, and the answer is `write_failed`.
abbrev pub HasReleased : {S : Type 0} → ℕ → NodeMoment S → NodeMoment S
    → Result (Unit {0}) GroupFault → Type 0
HasReleased seen old new (Ok x) = WritesAll seen old new
HasReleased seen old new (Err e) = LosesOutput seen old new × (e ≡ write_failed)
