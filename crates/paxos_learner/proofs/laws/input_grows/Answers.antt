use Rattle.paxos_learner.proofs.ValuesBelow.{front_grows, input_longer, keys_longer, learned_grows}
use Rattle.paxos_learner.proofs.laws.input_grows.Goals as goal

pub returns : goal.returns
returns c = record { keys = keys_longer; bytes = input_longer; values = front_grows; learned = learned_grows }
