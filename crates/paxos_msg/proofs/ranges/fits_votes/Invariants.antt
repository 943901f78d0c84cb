use Rattle.std.proofs.Common.{drop}
use Rattle.paxos_msg.specs.Fits.{AreVotes}
use Rattle.paxos_msg.proofs.ranges.fits_votes.Given as goal

abbrev pub invariant-loop-vote : goal.invariant-loop-vote
invariant-loop-vote l = record {
  onward : AreVotes l.size l.ballot l.low l.upto (drop l.vote-index l.votes) → AreVotes l.size l.ballot l.first l.upto l.votes;
  back : AreVotes l.size l.ballot l.first l.upto l.votes → AreVotes l.size l.ballot l.low l.upto (drop l.vote-index l.votes);
}
