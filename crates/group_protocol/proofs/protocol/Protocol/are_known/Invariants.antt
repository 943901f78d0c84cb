-- The keys that are still to come decide whether all of them are known.
use Rattle.std.proofs.Common.{◌≡◌, ◌+◌, drop}
use Rattle.paxos_msg.specs.Keys.{keys_from}
use Rattle.group_protocol.specs.ProposerResponses.{are_known}
use Rattle.group_protocol.proofs.protocol.Protocol.are_known.Given as goal

abbrev pub invariant-loop-byte : goal.invariant-loop-byte
invariant-loop-byte g l = record {
  known : are_known l.self.known (keys_from l.node l.start l.serial (drop l.byte-index l.bytes))
      ≡ are_known l.self.known (keys_from l.node l.start l.first l.bytes);
  serial : l.serial ≡ l.first + l.byte-index;
}
