-- The three ways in which a growth comes.
use Rattle.paxos_msg.specs.Growth.{nothing, sends, saves}
use Rattle.paxos_msg.proofs.laws.growth.Goals as goal

pub returns : goal.returns
returns c = search (nothing, sends, saves)
