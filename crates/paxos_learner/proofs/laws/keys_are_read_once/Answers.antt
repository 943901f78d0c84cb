use Rattle.paxos_learner.proofs.KeyTests.{firsts_push, same_keys}
use Rattle.paxos_learner.proofs.laws.keys_are_read_once.Goals as goal

pub returns : goal.returns
returns c = record { more = firsts_push; same = same_keys }
