-- The node is there if its bit is set.
use Rattle.std.proofs.Common.{arith}
use Rattle.std.proofs.lemmas.Nat.Bits.{shr_and_one}
use Rattle.paxos_learner.proofs.Masks.{bit_node}
use Rattle.paxos_learner.proofs.node_set.NodeSet.contains.Goals as goal

pub returns : goal.returns
returns c = rw (← c.self.view_is) (grind (arith, shr_and_one, bit_node c.self.inside.bits c.args.node))
