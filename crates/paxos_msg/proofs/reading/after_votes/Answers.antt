use Rattle.std.proofs.Common.{arith}
use Rattle.std.proofs.lemmas.Result.{err_from_is_err_and}
use Rattle.paxos_msg.proofs.VotesLeft.{goes_on, fault_at, no_votes}
use Rattle.paxos_msg.proofs.reading.after_votes.Goals as goal

pub returns-in_err-place-clause-exact : goal.returns-in_err-place-clause-exact
returns-in_err-place-clause-exact c =
    let p = err_from_is_err_and c.from_residual.result c.from_residual.ensures.1 in
    rw (p.1, p.2) (c.loop.invariant.err c.in_err-place.field-0.0 (fault_at _ _ _ _ _ _ _ _ (omega arith) c.in_err-place.ensures.err))

pub loop-preserved : goal.loop-preserved
loop-preserved c =
    grind (arith, goes_on)

pub returns-clause-exact : goal.returns-clause-exact
returns-clause-exact c = c.loop.invariant.ok c.loop.rest.now (no_votes _ _ _ _ _ _ _ (omega arith))
