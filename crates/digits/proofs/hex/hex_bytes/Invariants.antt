use Rattle.std.proofs.Common.{◌≡◌}
use Rattle.std.specs.Slice.Iter.{chunks_rest, chunks_size}
use Rattle.digits.proofs.Hexes.{IsReadUpTo}
use Rattle.digits.proofs.hex.hex_bytes.Given as goal

abbrev pub invariant-loop-pair : goal.invariant-loop-pair
invariant-loop-pair l =
    (goal.iterator-loop-pair).can_next l.pair-iterator ×
    (goal.iterator-loop-pair).is_finite l.pair-iterator ×
    (chunks_size l.pair-iterator ≡ 2) ×
    IsReadUpTo l.text (chunks_rest l.pair-iterator) l.bytes.items
