-- What is kept so far leads, with the votes that are left, to what the whole leads to; and there is
-- room for these.
use Rattle.std.proofs.Common.{◌≡◌, ◌≤◌, length}
use Rattle.paxos_proposer.specs.Proposer.{heard}
use Rattle.paxos_proposer.proofs.hearing.hear_votes.Given as goal

abbrev pub invariant-loop-vote : goal.invariant-loop-vote
invariant-loop-vote l = record {
  same : heard l.low l.kept.votes l.vote-iterator ≡ heard l.low l.fn.kept.votes l.fn.votes;
  room : length l.vote-iterator ≤ l.kept.room;
}
