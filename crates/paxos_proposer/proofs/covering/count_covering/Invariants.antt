-- The count is that of the nodes so far that have promised above the place.
use Rattle.std.proofs.Common.{◌≡◌, ◌≤◌}
use Rattle.paxos_msg.specs.Ballots.{count_of}
use Rattle.paxos_proposer.specs.Proposer.{is_covered_by}
use Rattle.paxos_proposer.proofs.covering.count_covering.Given as goal

abbrev pub invariant-loop-before : goal.invariant-loop-before
invariant-loop-before l = record {
  count : l.count ≡ count_of (is_covered_by l.coverages l.place) l.before;
  few : l.count ≤ l.before;
}
