use Rattle.paxos_msg.proofs.SpellingLengths.{value_short}
use Rattle.paxos_msg.proofs.grammar.value_is_short.Goals as goal

pub returns : goal.returns
returns c = record { short = value_short }
