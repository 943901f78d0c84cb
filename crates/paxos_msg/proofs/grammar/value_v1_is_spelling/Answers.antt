use Rattle.paxos_msg.proofs.Fields.{law_of_two}
use Rattle.paxos_msg.proofs.ValuesRead.{values_v1}
use Rattle.paxos_msg.proofs.grammar.value_v1_is_spelling.Goals as goal

pub returns : goal.returns
returns c = record { read = λ size. law_of_two (values_v1 size) }
