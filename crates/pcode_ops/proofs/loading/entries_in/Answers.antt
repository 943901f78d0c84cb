use Rattle.std.proofs.Common.{rules, true, false, ◌≡◌, ◌-◌, arith}
use Rattle.pcode_ops.proofs.Entries.{entries_step}
use Rattle.pcode_ops.proofs.loading.entries_in.Goals as goal
use Rattle.pcode_ops.specs.Loading.{entries_in}

pub returns-then-not-leads_in : goal.returns-then-not-leads_in
returns-then-not-leads_in c = entries_step _ _ _ _ _ false (search rules) (cc) c.loop-k.invariant

pub loop-k-preserved : goal.loop-k-preserved
loop-k-preserved c = entries_step _ _ _ _ _ true (search rules) (cc) c.loop-k.invariant

pub returns : goal.returns
unfolding entries_in
returns c = let none : c.args.count - c.loop-k.k ≡ 0 = omega arith in rw none at c.loop-k.invariant
