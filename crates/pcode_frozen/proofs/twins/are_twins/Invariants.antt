use Rattle.std.proofs.Common.{◌≡◌, ◌<◌, ℕ, Some, slice_get}
use Rattle.pcode_frozen.specs.Twins.{SamePlace, listed}
use Rattle.pcode_frozen.specs.declared.pairs.Pair.{Pair}
use Rattle.pcode_frozen.proofs.twins.are_twins.Given as goal

abbrev pub invariant-loop-pair : goal.invariant-loop-pair
invariant-loop-pair l = (k : ℕ) (x : Pair) → k < l.pair-index → slice_get l.pairs k ≡ Some x
    → SamePlace l.program l.other (listed l.pairs) x.procedure x.offset x.other x.other_offset
