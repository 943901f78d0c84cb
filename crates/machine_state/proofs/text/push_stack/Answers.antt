use Rattle.std.proofs.Common.{◌∙◌, sym}
use Rattle.std.specs.Prelude.{codes}
use Rattle.machine_state.specs.Text.{spaced}
use Rattle.machine_state.proofs.Pieces.{next_piece}
use Rattle.machine_state.proofs.text.push_stack.Goals as goal

pub loop-depth-preserved : goal.loop-depth-preserved
loop-depth-preserved c =
    next_piece spaced c.args.stack.now c.loop-depth.depth c.in-Some.word _ (codes "stack") _ _ (sym c.get.ensures ∙ c.in-Some.is)
    c.loop-depth.invariant c.in_ok-push_word.ensures
