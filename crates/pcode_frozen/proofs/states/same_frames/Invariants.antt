use Rattle.std.proofs.Common.{ℕ, ◌<◌}
use Rattle.pcode_frozen.specs.Originals.{IsTwinAt}
use Rattle.pcode_frozen.specs.Twins.{listed}
use Rattle.pcode_frozen.proofs.states.same_frames.Given as goal

abbrev pub invariant-loop-index : goal.invariant-loop-index
invariant-loop-index l = (k : ℕ) → k < l.index
    → IsTwinAt l.program (listed l.pairs) l.frames l.others k
