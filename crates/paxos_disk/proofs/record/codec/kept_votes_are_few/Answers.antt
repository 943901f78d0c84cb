use Rattle.std.proofs.Common.{arith}
use Rattle.std.proofs.lemmas.Bool.Decides.{nat_tests}
use Rattle.paxos_disk.proofs.Votes.{few_votes, with_one_more}
use Rattle.paxos_disk.proofs.record.codec.kept_votes_are_few.Goals as goal

pub returns-clause-few : goal.returns-clause-few
returns-clause-few c = few_votes

pub returns-clause-one_more : goal.returns-clause-one_more
returns-clause-one_more c = λ r change. grind (arith, nat_tests, with_one_more r.votes)
