use Rattle.std.proofs.Common.{arith}
use Rattle.std.proofs.lemmas.Result.{err_from_is_err_and}
use Rattle.node_run.proofs.Course.{gift_both, gives_now}
use Rattle.node_run.proofs.KeyboardAnswers.{answered_bytes, answered_request, asked_answered, bytes_answered, bytes_refused}
use Rattle.node_run.proofs.answering.answer_keyboard.Goals as goal

pub returns-then-take_request-clause-answered : goal.returns-then-take_request-clause-answered
returns-then-take_request-clause-answered g c =
    rw c.answer_request.ensures.untyped
    (asked_answered _ g.S.Store.kind _ _ _ _ _ _ _ _ c.answer_request.result c.answer_request.ensures.campaigned
    (gift_both c.look.ensures.came (gives_now (rw c.if-take_request.true at c.take_request.ensures.asked)))
    c.answer_request.ensures.retries c.answer_request.ensures.retries_stay)

pub returns-then-take_request-clause-takes : goal.returns-then-take_request-clause-takes
returns-then-take_request-clause-takes g c =
    rw c.answer_request.ensures.untyped
    (answered_request g.S.Store.kind _ _ _ _ _ _ c.answer_request.result c.look.ensures.came c.look.ensures.counted
    (rw c.if-take_request.true at c.take_request.ensures.asked) c.answer_request.ensures.campaigned c.answer_request.ensures.retries)

pub returns-in_err-type_given-clause-answered : goal.returns-in_err-type_given-clause-answered
returns-in_err-type_given-clause-answered g c =
    let p = err_from_is_err_and c.from_residual.result c.from_residual.ensures.1 in
    rw (p.1, p.2, c.in_err-type_given.ensures.passed, c.in_err-type_given.ensures.retries)
    (bytes_refused g.S.Store.kind _ _ _ c.in_err-type_given.ensures.typed
    (gift_both c.look.ensures.came (gives_now (rw c.if-take_request.false at c.take_request.ensures.asked))))

pub returns-clause-answered : goal.returns-clause-answered
returns-clause-answered g c =
    rw (c.in_ok-type_given.ensures.passed, c.in_ok-type_given.ensures.retries)
    (bytes_answered g.S.Store.kind _ _ _ c.in_ok-type_given.ensures.typed
    (gift_both c.look.ensures.came (gives_now (rw c.if-take_request.false at c.take_request.ensures.asked))))

pub returns-clause-takes : goal.returns-clause-takes
returns-clause-takes g c =
    rw (c.in_ok-type_given.ensures.passed, c.in_ok-type_given.ensures.retries)
    (answered_bytes g.S.Store.kind _ c.look.ensures.came c.look.ensures.counted (rw c.if-take_request.false at c.take_request.ensures.asked)
    (λ some. let is = c.take_request.ensures.taken some in grind arith) c.in_ok-type_given.ensures.takes
    c.in_ok-type_given.ensures.typed)
