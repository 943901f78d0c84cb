-- The keys so far, and those that are still to come, make the keys of the whole batch.
use Rattle.std.proofs.Common.{◌≡◌, ◌+◌, ◌≤◌, length, drop}
use Rattle.indexmap.specs.IndexSet.{insert_all}
use Rattle.paxos_msg.specs.Keys.{keys_from}
use Rattle.paxos_learner.specs.Input.{same_key}
use Rattle.paxos_learner.proofs.keys.KeySet.insert_batch.Given as goal

abbrev pub invariant-loop-byte : goal.invariant-loop-byte
invariant-loop-byte l = record {
  keys : insert_all same_key l.self.keys (keys_from l.node l.start l.serial (drop l.byte-index l.bytes))
      ≡ insert_all same_key l.initial.self.keys (keys_from l.node l.start l.first l.bytes);
  serial : l.serial ≡ l.first + l.byte-index;
  room : l.initial.self.room ≤ l.self.room + l.byte-index;
  few : length l.self.keys ≤ length l.initial.self.keys + l.byte-index;
}
