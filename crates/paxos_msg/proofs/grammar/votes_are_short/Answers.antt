use Rattle.paxos_msg.proofs.SpellingLengths.{votes_short}
use Rattle.paxos_msg.proofs.grammar.votes_are_short.Goals as goal

pub returns : goal.returns
returns c = record { short = votes_short }
