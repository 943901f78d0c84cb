use Rattle.std.proofs.Common.{◌≡◌, ◌-◌, ◌+◌, ◌≤◌, max}
use Rattle.pcode_file.specs.Checks.{low_from, low_of}
use Rattle.pcode_file.proofs.checks.low.Given as goal

abbrev pub invariant-loop-k : goal.invariant-loop-k
invariant-loop-k l = record {
  value : max l.low (low_from l.segment l.at (l.k + 1) (l.n - l.k)) ≡ low_of l.segment l.n l.at;
  within : l.low ≤ l.at + 1;
}
