use Rattle.paxos_msg.proofs.grammar.reading_is_spelling.Goals as goal
use Rattle.paxos_msg.proofs.MessagesRead.{message_again, message_found}

pub returns : goal.returns
returns c = record {
  read = λ group bytes m small are. (λ e. rw e at (message_found group bytes small are), message_again group bytes m small);
}
