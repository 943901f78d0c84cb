use Rattle.std.proofs.Common.{◌≡◌, ◌+◌, ◌*◌, ◌-◌}
use Rattle.pcode_ops.specs.Loading.{entries_in}
use Rattle.pcode_ops.proofs.loading.entries_in.Given as goal

abbrev pub invariant-loop-k : goal.invariant-loop-k
invariant-loop-k l = entries_in l.segment l.part (l.table + 2 * l.k) (l.count - l.k) ≡ entries_in l.segment l.part l.table l.count
