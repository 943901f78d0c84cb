use Rattle.std.proofs.Common.{arith}
use Rattle.paxos_msg.proofs.VotesByPlace.{ascending_with, put_over, put_between}
use Rattle.paxos_msg.proofs.voted.insert_vote.Goals as goal

pub returns-in-Ok-clause-ok : goal.returns-in-Ok-clause-ok
returns-in-Ok-clause-ok c = put_over _ _ _ (rw c.deref.ensures.value at c.in-Ok.ensures.found)

pub returns-in-Ok-clause-ascending : goal.returns-in-Ok-clause-ascending
returns-in-Ok-clause-ascending c =
    rw (returns-in-Ok-clause-ok c) (ascending_with _ _ c.requires)

pub returns-in_ok-insert-in-Err-clause-ok : goal.returns-in_ok-insert-in-Err-clause-ok
returns-in_ok-insert-in-Err-clause-ok c =
    grind (arith, put_between)

pub returns-in_ok-insert-in-Err-clause-ascending : goal.returns-in_ok-insert-in-Err-clause-ascending
returns-in_ok-insert-in-Err-clause-ascending c =
    rw (returns-in_ok-insert-in-Err-clause-ok c) (ascending_with _ _ c.requires)
