use Rattle.std.proofs.Common.{◌≡◌, ◌∙◌, ◌+◌, suc, sym, arith}
use Rattle.std.specs.Prelude.{codes}
use Rattle.machine_state.specs.Text.{spaced}
use Rattle.machine_state.proofs.Pieces.{next_piece}
use Rattle.machine_state.proofs.text.push_memory.Goals as goal

pub loop-index-preserved : goal.loop-index-preserved
loop-index-preserved c =
    let next : c.loop-index.index + 1 ≡ suc c.loop-index.index = omega arith in
    let there = rw next at (sym c.get.ensures ∙ c.in-Some.is) in
    next_piece spaced c.args.memory.now c.loop-index.index c.in-Some.word _ (codes "memory") _ _ there c.loop-index.invariant
    c.in_ok-push_word.ensures
