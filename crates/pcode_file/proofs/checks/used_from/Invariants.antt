use Rattle.std.proofs.Common.{◌≡◌, ◌-◌}
use Rattle.pcode_file.specs.Checks.{used_from}
use Rattle.pcode_file.proofs.checks.used_from.Given as goal

abbrev pub invariant-loop-k : goal.invariant-loop-k
invariant-loop-k l = used_from l.bytes l.k (16 - l.k) ≡ used_from l.bytes l.from (16 - l.from)
