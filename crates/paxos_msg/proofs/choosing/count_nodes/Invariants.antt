-- The count is that of the nodes so far that are in the list.
use Rattle.std.proofs.Common.{◌≡◌, ◌≤◌}
use Rattle.paxos_msg.specs.Ballots.{count_of}
use Rattle.paxos_msg.specs.Chosen.{is_listed}
use Rattle.paxos_msg.proofs.choosing.count_nodes.Given as goal

abbrev pub invariant-loop-before : goal.invariant-loop-before
invariant-loop-before l = record {
  count : l.count ≡ count_of (is_listed l.members) l.before;
  few : l.count ≤ l.before;
}
