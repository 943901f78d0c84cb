use Rattle.std.proofs.Common.{◌≡◌, ◌∙◌, rules}
use Rattle.group_protocol.specs.Known.{front}
use Rattle.group_wire.specs.Turns.{SameReleased}
use Rattle.std.proofs.lemmas.Result.{err_from_is_err_and}
use Rattle.node_run.proofs.Cycling.{answer_ended, rest_ended, retry_refused, turn_ended, turned_once}
use Rattle.node_run.proofs.cycles.rest_and_turn.Goals as goal

pub returns-in_err-rest_unless_busy-clause-turns : goal.returns-in_err-rest_unless_busy-clause-turns
returns-in_err-rest_unless_busy-clause-turns g c written =
    let p = err_from_is_err_and c.from_residual.result c.from_residual.ensures.1 in
    rw (p.1, p.2, c.in_err-rest_unless_busy.ensures.retries)
    (rest_ended g.S.Store.kind written (search rules) c.in_err-rest_unless_busy.ensures.hears c.in_err-rest_unless_busy.ensures.looks)

pub returns-in_err-retried-clause-turns : goal.returns-in_err-retried-clause-turns
returns-in_err-retried-clause-turns g c written =
    let p = err_from_is_err_and c.from_residual-in_err-retried.result c.from_residual-in_err-retried.ensures.1 in
    let stays : SameReleased c.args.host.now c.campaign_again.new.host = cc in
    rw (p.1, p.2, ← c.in_ok-rest_unless_busy.ensures.retries)
    (retry_refused g.S.Store.kind written c.in_ok-rest_unless_busy.ensures.hears c.in_ok-rest_unless_busy.ensures.looks
    c.in_err-retried.ensures.retried stays)

pub returns-in_err-answered-clause-turns : goal.returns-in_err-answered-clause-turns
returns-in_err-answered-clause-turns g c written =
    let p = err_from_is_err_and c.from_residual-in_err-answered.result c.from_residual-in_err-answered.ensures.1 in
    let stays : SameReleased c.args.host.now c.answer_keyboard.new.host = cc in
    rw (p.1, p.2, ← c.in_ok-rest_unless_busy.ensures.retries)
    (answer_ended g.S.Store.kind written c.in_ok-rest_unless_busy.ensures.hears c.in_ok-rest_unless_busy.ensures.looks
    c.in_ok-retried.retried c.in_ok-retried.ensures.retried c.in_err-answered.ensures.answered stays)

pub returns-in_err-ran-clause-turns : goal.returns-in_err-ran-clause-turns
returns-in_err-ran-clause-turns g c written =
    let p = err_from_is_err_and c.from_residual-in_err-ran.result c.from_residual-in_err-ran.ensures.1 in
    let begun : c.known_front-begun.result ≡ front c.args.host.now.protocol.known = search rules in
    let stays : SameReleased c.args.host.now c.own_turn.new.host =
    c.in_err-ran.ensures.stays ∙ c.in_ok-answered.ensures.output.stays ∙ c.in_ok-retried.ensures.output.stays
    ∙ c.in_ok-rest_unless_busy.ensures.output.stays in
    rw (p.1, p.2, ← c.in_ok-rest_unless_busy.ensures.retries)
    (turn_ended g.S.Store.kind written c.in_ok-rest_unless_busy.ensures.hears c.in_ok-rest_unless_busy.ensures.looks
    c.in_ok-retried.retried c.in_ok-retried.ensures.retried
    c.in_ok-answered.answered c.in_ok-answered.ensures.takes (rw begun at c.in_err-ran.ensures.fault) c.in_err-ran.ensures.refused stays)

pub returns-clause-turns : goal.returns-clause-turns
returns-clause-turns g c written =
    let begun : c.known_front-begun.result ≡ front c.args.host.now.protocol.known = search rules in
    let stays : SameReleased c.args.host.now c.own_turn.new.host =
    c.in_ok-ran.ensures.stays ∙ c.in_ok-answered.ensures.output.stays ∙ c.in_ok-retried.ensures.output.stays
    ∙ c.in_ok-rest_unless_busy.ensures.output.stays in
    rw (c.note_wire.ensures.passed, ← c.in_ok-rest_unless_busy.ensures.retries)
    (turned_once g.S.Store.kind written c.in_ok-rest_unless_busy.ensures.hears c.in_ok-rest_unless_busy.ensures.looks
    c.in_ok-retried.retried c.in_ok-retried.ensures.retried
    c.in_ok-answered.answered c.in_ok-answered.ensures.takes c.in_ok-ran.ensures.turned.0
    (rw begun at c.in_ok-ran.ensures.turned.1) c.in_ok-ran.ensures.turned.3
    c.in_ok-ran.ensures.acts c.unreleased.ensures.replay stays)
