use Rattle.std.proofs.Common.{◌≡◌, drop}
use Rattle.pcode_ops.specs.Loading.{owner}
use Rattle.pcode_ops.proofs.loading.owner.Given as goal

abbrev pub invariant-loop-part : goal.invariant-loop-part
invariant-loop-part l = owner (drop l.part-index l.procs) l.at ≡ owner l.procs l.at
