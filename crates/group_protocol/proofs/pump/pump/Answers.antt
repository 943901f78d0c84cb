use Rattle.std.proofs.Common.{◌≡◌, None, true, false, refl, arith}
use Rattle.std.proofs.lemmas.Bool.Decides.{nat_tests}
use Rattle.paxos_proposer.specs.Proposer.{next_value}
use Rattle.group_protocol.proofs.Pumping.{over_all, over_none, pumping_more, pumping_none}
use Rattle.group_protocol.proofs.pump.pump.Goals as goal

pub loop-made-init : goal.loop-made-init
loop-made-init c = grind (arith, nat_tests, pumping_none)

pub loop-made-preserved : goal.loop-made-preserved
loop-made-preserved c =
    grind (arith, pumping_more)

-- what was proposed where no value is found
pub returns-then-not-propose : goal.returns-then-not-propose
returns-then-not-propose c =
    let none =
    over_none c.loop-made.invariant.pumping (next_value c.loop-made.proposer.known None) refl
    (c.propose.ensures.none (λ t. let e : false ≡ true = rw c.if-not-propose.true at t in absurd cc))
    c.propose.ensures.known c.propose.ensures.packets in
    grind (arith, nat_tests, none)

-- what was proposed where 16 proposals are made
pub returns : goal.returns
returns c =
    let full = over_all c.loop-made.invariant.pumping c.loop-made-test.false in
    grind (arith, nat_tests, full)
