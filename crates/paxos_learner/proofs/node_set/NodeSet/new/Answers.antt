-- The word without bits is the set without nodes.
use Rattle.std.proofs.Common.{refl}
use Rattle.paxos_learner.specs.Masks.{low_bits, nodes_of}
use Rattle.paxos_learner.proofs.node_set.NodeSet.new.Goals as goal

pub returns : goal.returns
unfolding nodes_of low_bits
returns c = refl
