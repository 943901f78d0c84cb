use Rattle.std.proofs.Common.{◌≡◌, length, false, ◌-◌}
use Rattle.pcode_ops.specs.Walks.{IsSearch}
use Rattle.pcode_ops.proofs.Searching.{AreFine}
use Rattle.pcode_ops.proofs.walk.search_on.Given as goal

-- what was looked at so far is marked onward, and has no fault unless one was noted
abbrev pub invariant-loop-done : goal.invariant-loop-done
invariant-loop-done l = record {
  search : IsSearch l.file l.done l.walk;
  fine : l.is_faulty ≡ false → AreFine l.file l.done l.walk;
}

abbrev pub decreases-loop-done : goal.decreases-loop-done
decreases-loop-done l = length l.file.segment - l.done
