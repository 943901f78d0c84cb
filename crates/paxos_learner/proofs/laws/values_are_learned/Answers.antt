use Rattle.paxos_learner.proofs.ValuesBelow.{get_below, length_below}
use Rattle.paxos_learner.proofs.laws.values_are_learned.Goals as goal

pub returns : goal.returns
returns c = record { many = length_below; at_place = get_below }
