use Rattle.std.proofs.Common.{◌≡◌, ◌+◌, ◌≤◌, length, take, refl, arith, rules}
use Rattle.std.proofs.lemmas.Grind.{common_steps}
use Rattle.std.proofs.lemmas.Result.{err_from_is_err_and}
use Rattle.node_run.proofs.Course.{left_given}
use Rattle.node_run.proofs.KeyboardAnswers.{typed_all, typed_some}
use Rattle.node_run.proofs.answering.type_given.Goals as goal

pub returns-in_err-pressed-clause-typed : goal.returns-in_err-pressed-clause-typed
returns-in_err-pressed-clause-typed g c =
    let p = err_from_is_err_and c.from_residual.result c.from_residual.ensures.1 in
    rw (p.1, p.2) (typed_some _ _ c.in_err-pressed.ensures.pressed c.in_err-pressed.ensures.acts refl c.requires.works
    c.give-count.ensures.given)

pub returns-clause-typed : goal.returns-clause-typed
returns-clause-typed g c =
    let room : length c.args.host.now.protocol.known.waiting + length (take c.give-count.result c.give-count.new.buffer) ≤ 256 =
    grind (arith, common_steps, c.waiting.ensures.count, c.waiting.ensures.few, c.give-count.ensures.room) in
    typed_all _ c.in_ok-pressed.ensures.pressed c.in_ok-pressed.ensures.acts refl room c.give-count.ensures.given

pub returns-in_err-pressed-clause-takes : goal.returns-in_err-pressed-clause-takes
returns-in_err-pressed-clause-takes g c =
    let same : c.waiting.result ≡ length c.args.host.now.protocol.known.waiting = search rules in
    left_given _ c.give-count.result (take c.give-count.result c.give-count.new.buffer) _ _ c.give-count.ensures.given.whole
    (grind (arith, common_steps, c.give-count.ensures.within))
    (rw same at c.give-count.ensures.all)

pub returns-clause-takes : goal.returns-clause-takes
returns-clause-takes g c =
    let same : c.waiting.result ≡ length c.args.host.now.protocol.known.waiting = search rules in
    left_given _ c.give-count.result (take c.give-count.result c.give-count.new.buffer) _ _ c.give-count.ensures.given.whole
    (grind (arith, common_steps, c.give-count.ensures.within))
    (rw same at c.give-count.ensures.all)
