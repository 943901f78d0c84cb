use Rattle.std.proofs.Common.{arith, refl, rules}
use Rattle.paxos_disk.proofs.VotesV1.{fault_next, none_left, one_more}
use Rattle.paxos_disk.proofs.record.version1.votes_of_v1.Goals as goal

pub returns-in_default : goal.returns-in_default
returns-in_default c = rw (fault_next c.loop.invariant (omega arith) c.in_default.ensures.exact) refl

pub loop-preserved : goal.loop-preserved
loop-preserved c = rw (c.in-Ok-push.ensures.items) (one_more c.loop.invariant (omega arith) c.in-Ok.ensures.exact)

pub returns-then-not-is_empty : goal.returns-then-not-is_empty
returns-then-not-is_empty c = rw (none_left c.loop.invariant (omega arith)) (search rules)

pub returns : goal.returns
returns c = rw (none_left c.loop.invariant (omega arith)) (search rules)
