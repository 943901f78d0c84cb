use Rattle.std.proofs.Common.{◌≡◌, ◌-◌, ◌+◌, ◌≤◌, ◌++◌, Ok, vec_len}
use Rattle.std.specs.Vec.{vec_capacity}
use Rattle.base.specs.Steps.{◌>>=◌}
use Rattle.pcode_file.specs.Checks.{all_of, proc_at}
use Rattle.pcode_file.proofs.file.collected.Given as goal

abbrev pub invariant-loop-k : goal.invariant-loop-k
invariant-loop-k l = record {
  room : l.n ≤ vec_capacity l.procs;
  kept : vec_len l.procs ≡ l.k;
  value : (all_of (proc_at l.segment l.n) (l.k + 1) (l.n - l.k) >>= λ xs. Ok (l.procs.items ++ xs)) ≡ all_of (proc_at l.segment l.n) 1 l.n;
}
