use Rattle.paxos_msg.proofs.Fields.{law, ballots}
use Rattle.paxos_msg.proofs.grammar.ballot_is_spelling.Goals as goal

pub returns : goal.returns
returns c = record { read = λ size. law (ballots size) }
