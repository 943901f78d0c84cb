-- Where no message's ballot has chosen the value, none has.
use Rattle.std.proofs.Common.{arith}
use Rattle.std.proofs.lemmas.Bool.Decides.{nat_tests}
use Rattle.paxos_msg.proofs.CountingNodes.{majorities_meet}
use Rattle.paxos_msg.proofs.choosing.is_chosen.Goals as goal

pub returns : goal.returns
returns c = grind (arith, nat_tests, majorities_meet, c.loop-i.invariant)
