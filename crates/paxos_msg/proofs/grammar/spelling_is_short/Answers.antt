use Rattle.std.proofs.Common.{arith}
use Rattle.paxos_msg.proofs.SpellingLengths.{body_short}
use Rattle.paxos_msg.proofs.grammar.spelling_is_short.Goals as goal

pub returns : goal.returns
returns c = record { short = λ group m h. omega (arith, body_short group.size m.sender m.body h.1) }
