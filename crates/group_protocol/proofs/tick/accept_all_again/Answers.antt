use Rattle.std.proofs.Common.{◌≡◌, ◌∙◌, ℕ, suc, ◌+◌, ◌-◌, arith, length-append}
use Rattle.std.proofs.lemmas.Bool.Decides.{nat_tests}
use Rattle.paxos_learner.specs.Learner.{front_of}
use Rattle.paxos_proposer.specs.Proposer.{next_of}
use Rattle.group_protocol.specs.Tick.{accept_again}
use Rattle.group_protocol.proofs.Places.{few_put, more_put, most_put, one_more}
use Rattle.group_protocol.proofs.tick.accept_all_again.Goals as goal

pub loop-place-preserved : goal.loop-place-preserved
loop-place-preserved c =
    let i = c.loop-place.invariant in
    let first : ℕ = front_of c.args.learner.now.learned in
    let here : first + (c.loop-place.place - first) ≡ c.loop-place.place =
    omega (arith, c.loop-place.auto.place, c.known_front-place.ensures.front) in
    let next : c.loop-place.place + 1 - first ≡ suc (c.loop-place.place - first) = omega arith in
    let more = one_more (accept_again c.args.learner.now.learned c.args.proposer.now.known) first (c.loop-place.place - first) in
    let put = more_put c.loop-place.place (c.loop-place.place + 1 - first) i.put here next c.accept_again.ensures.packets in
    grind (arith, nat_tests, put, here, next, more, length-append, c.accept_again.ensures, i, c.if-accept_again.branch)

pub returns-then-sent-eq-MOST_AGAIN-clause-packets : goal.returns-then-sent-eq-MOST_AGAIN-clause-packets
returns-then-sent-eq-MOST_AGAIN-clause-packets c =
    let i = c.loop-place.invariant in
    most_put (next_of c.args.proposer.now.known - front_of c.args.learner.now.learned) 16 i.put i.end
    (i.counted ∙ c.if-sent-eq-MOST_AGAIN.true)

pub returns-clause-packets : goal.returns-clause-packets
returns-clause-packets c =
    let i = c.loop-place.invariant in
    few_put (next_of c.args.proposer.now.known - front_of c.args.learner.now.learned) 16 i.put
    (omega (arith, i.end, c.loop-place-test.false)) (omega (arith, i.counted, i.few))
