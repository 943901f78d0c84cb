use Rattle.std.proofs.Common.{◌∙◌, [], sym}
use Rattle.machine_state.specs.Text.{frame_line}
use Rattle.machine_state.proofs.Pieces.{next_piece}
use Rattle.machine_state.proofs.text.push_frames.Goals as goal

pub loop-index-preserved : goal.loop-index-preserved
loop-index-preserved c =
    next_piece frame_line c.args.frames.now c.loop-index.index c.in-Some.frame _ [] _ _ (sym c.frame.ensures ∙ c.in-Some.is)
    c.loop-index.invariant c.in_ok-push_frame.ensures
