use Rattle.pcode_ops.specs.Loading.{IsCaseEntry}
use Rattle.pcode_ops.specs.Walks.{Adds}
use Rattle.pcode_ops.proofs.walk.mark_entries.Given as goal

abbrev pub invariant-loop-k : goal.invariant-loop-k
invariant-loop-k l = Adds (IsCaseEntry l.segment l.table l.k) l.initial.walk l.walk
