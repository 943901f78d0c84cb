use Rattle.std.proofs.Common.{◌≡◌, [], Option, length}
use Rattle.group_node.specs.Output.{unreleased_of}
use Rattle.group_node.specs.States.{input}
use Rattle.group_wire.specs.Doings.{HasActed}
use Rattle.group_wire.specs.Traffic.{Traffic}
use Rattle.node_run.proofs.Releasing.{TakesSome}
use Rattle.node_run.proofs.release.release_unseen.Given as goal

abbrev pub invariant-loop-number : goal.invariant-loop-number
invariant-loop-number g l = record {
  takes : TakesSome l.seen l.fn.host l.host l.unseen.items;
  acts : (passed : Option Traffic) → HasActed l.fn.host l.host passed passed [];
  passed : g.T.Wire.traffic l.wire ≡ g.T.Wire.traffic l.fn.wire;
}

abbrev pub decreases-loop-number : goal.decreases-loop-number
decreases-loop-number g l = length (unreleased_of (input l.host.protocol.known) l.host.progress)
