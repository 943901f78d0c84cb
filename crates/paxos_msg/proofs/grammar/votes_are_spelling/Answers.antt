use Rattle.std.proofs.Common.{arith}
use Rattle.paxos_msg.proofs.Fields.{law_of_two}
use Rattle.paxos_msg.proofs.VotesRead.{votes}
use Rattle.paxos_msg.proofs.grammar.votes_are_spelling.Goals as goal

pub returns : goal.returns
returns c = record {
  read = λ size n b. law_of_two (votes size b 0 65536 (omega arith) n 0 0 (omega arith) (omega arith) (λ k le above. le));
}
