use Rattle.std.proofs.Common.{◌∙◌, ap, refl}
use Rattle.node_io.specs.Prompts.{no_keys, with_more}
use Rattle.group_udp.proofs.Typing.{came_twice, none_came, takes_in}
use Rattle.group_udp.proofs.typed.TypedDatagramsKeyboard.look.Goals as goal

pub loop-init : goal.loop-init
loop-init g c = (no_keys, none_came _)

pub returns-then-not-take_in : goal.returns-then-not-take_in
returns-then-not-take_in g c =
    let (came, left) = c.loop.invariant in
    let (more, next) = c.take_in.ensures.came in
    let before = left ∙ ap (with_more came) c.is_passed_over.ensures.same in
    record {
      came = takes_in _ _ (with_more more came) (next ∙ ap (with_more more) before ∙ came_twice _ came more) refl refl refl refl;
      counted = refl;
    }

pub loop-preserved : goal.loop-preserved
loop-preserved g c =
    let (came, left) = c.loop.invariant in
    let (more, next) = c.take_in.ensures.came in
    (with_more more came, next ∙ ap (with_more more) left ∙ came_twice _ came more)

pub returns : goal.returns
returns g c =
    let (came, left) = c.loop.invariant in
    record { came = takes_in _ _ came (left ∙ ap (with_more came) c.is_passed_over.ensures.same) refl refl refl refl; counted = refl }

pub returns-then-is_passed_over-clause-came : goal.returns-then-is_passed_over-clause-came
returns-then-is_passed_over-clause-came g c = takes_in _ _ no_keys (c.is_passed_over.ensures.same ∙ none_came _) refl refl refl refl
