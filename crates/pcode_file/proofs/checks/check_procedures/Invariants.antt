use Rattle.std.proofs.Common.{◌≡◌, ◌+◌, ◌-◌}
use Rattle.pcode_file.specs.Checks.{first_of, proc_at}
use Rattle.pcode_file.proofs.checks.check_procedures.Given as goal

abbrev pub invariant-loop-k : goal.invariant-loop-k
invariant-loop-k l = first_of (proc_at l.segment l.n) (l.k + 1) (l.n - l.k) ≡ first_of (proc_at l.segment l.n) 1 l.n
