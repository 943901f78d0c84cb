use Rattle.paxos_proposer.proofs.PartsHeard.{part_backed}
use Rattle.paxos_proposer.proofs.laws.parts_keep_it_backed.Goals as goal

pub returns : goal.returns
returns c = part_backed
