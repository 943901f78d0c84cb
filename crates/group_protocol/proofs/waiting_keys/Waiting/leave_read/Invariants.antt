-- What has left was read, and what is to leave of the rest is what was to leave of all.
use Rattle.std.proofs.Common.{◌≡◌, ℕ, ◌+◌, List, drop, length}
use Rattle.paxos_learner.specs.Input.{front_values, keys_in_order}
use Rattle.paxos_msg.specs.Keys.{keys_from}
use Rattle.group_protocol.specs.Ranges.{IsWaiting}
use Rattle.group_protocol.specs.WaitingKeys.{count_read}
use Rattle.group_protocol.proofs.waiting_keys.Waiting.leave_read.Given as goal

abbrev pub invariant-loop-byte : goal.invariant-loop-byte
invariant-loop-byte l =
    let read = keys_in_order (front_values l.learner.learned) in
    let count : ℕ → List ℕ → ℕ = λ first bytes. count_read read (keys_from l.node l.start first bytes) in
    let now = l.self-inside in
    let was = l.initial.self-inside in
    record {
      capacity : now.bytes.capacity ≡ 256;
      waiting : IsWaiting now.first now.bytes.items;
      rest : drop (count now.first now.bytes.items) now.bytes.items ≡ drop (count was.first was.bytes.items) was.bytes.items;
      serial : now.first + count now.first now.bytes.items ≡ was.first + count was.first was.bytes.items;
    }

abbrev pub decreases-loop-byte : goal.decreases-loop-byte
decreases-loop-byte l = length l.self-inside.bytes.items
