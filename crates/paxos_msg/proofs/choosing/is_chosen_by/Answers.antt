-- The count goes on; the test says if they are a majority.
use Rattle.std.proofs.Common.{arith}
use Rattle.std.proofs.lemmas.Bool.Decides.{nat_tests}
use Rattle.paxos_msg.proofs.CountingNodes.{count_grows, counted_in}
use Rattle.paxos_msg.proofs.choosing.is_chosen_by.Goals as goal

pub loop-before-preserved : goal.loop-before-preserved
loop-before-preserved c =
    grind (arith, counted_in)

pub returns : goal.returns
returns c = grind (arith, nat_tests, count_grows, c.loop-before.invariant.counted)
