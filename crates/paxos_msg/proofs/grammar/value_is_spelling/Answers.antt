use Rattle.paxos_msg.proofs.Fields.{law}
use Rattle.paxos_msg.proofs.ValuesRead.{values}
use Rattle.paxos_msg.proofs.grammar.value_is_spelling.Goals as goal

pub returns : goal.returns
returns c = record { read = λ size. law (values size) }
