-- The theorems of `VotesByPlace`.
use Rattle.std.proofs.Common.{arith}
use Rattle.std.proofs.lemmas.Bool.Decides.{nat_tests}
use Rattle.paxos_msg.proofs.VotesByPlace.{ascending_with, vote_after, vote_at-with_vote_same, vote_found}
use Rattle.paxos_msg.proofs.laws.votes_are_by_place.Goals as goal

pub returns : goal.returns
returns c = record {
  there = vote_at-with_vote_same;
  elsewhere = λ votes vote s ne. grind (arith, nat_tests, vote_after votes vote s);
  ascending = ascending_with;
  found = vote_found;
}
