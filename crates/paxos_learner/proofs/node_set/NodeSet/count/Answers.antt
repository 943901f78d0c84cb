-- The nodes 1 to `size` are the lowest bits after that of node 0.
use Rattle.std.proofs.Common.{arith, ◌/◌}
use Rattle.std.proofs.lemmas.Nat.{and_mask, one_shl}
use Rattle.paxos_learner.specs.Tallies.{has_node}
use Rattle.paxos_learner.proofs.Masks.{count_low, count_within}
use Rattle.paxos_learner.proofs.node_set.NodeSet.count.Goals as goal

pub returns-clause-count : goal.returns-clause-count
returns-clause-count c =
    let size = c.args.size in
    rw (← c.self.view_is, one_shl size 16 (omega arith), and_mask (c.self.inside.bits / 2) size)
    (count_low c.self.inside.bits size c.requires)

pub returns-clause-few : goal.returns-clause-few
returns-clause-few c = omega (arith, returns-clause-count c, count_within (has_node c.args.self.now) c.args.size)
