use Rattle.std.proofs.Common.{ℕ, ◌+◌, ◌*◌, ◌<◌}
use Rattle.pcode_ops.specs.Jumps.{pointed_by}
use Rattle.pcode_frozen.specs.Twins.{listed, GoesOn}
use Rattle.pcode_frozen.proofs.twins.same_cases.Given as goal

abbrev pub invariant-loop-k : goal.invariant-loop-k
invariant-loop-k l = (j : ℕ) → j < l.k → GoesOn l.other_program (listed l.pairs)
    l.after.procedure (pointed_by l.program.segment (l.table + 2 * j))
    l.after.other (pointed_by l.other_program.segment (l.other_table + 2 * j))
