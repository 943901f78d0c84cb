-- To set a node's bit puts it in.
use Rattle.std.proofs.Common.{arith}
use Rattle.std.proofs.lemmas.Nat.{one_shl, or_lt, pow_below}
use Rattle.paxos_learner.specs.Masks.{nodes_of}
use Rattle.paxos_learner.proofs.Masks.{low_bit_set}
use Rattle.paxos_learner.proofs.node_set.NodeSet.insert.Goals as goal

pub invariant_of-self : goal.invariant_of-self
invariant_of-self c =
    or_lt 10 c.self.inside.bits _ c.self.invariant
    (omega (arith, one_shl c.args.node 16 (omega arith), pow_below c.args.node 10 (omega arith)))

pub returns : goal.returns
unfolding nodes_of
returns c = rw (← c.self.view_is, one_shl c.args.node 16 (omega arith)) (low_bit_set 10 c.self.inside.bits c.args.node (omega arith))
