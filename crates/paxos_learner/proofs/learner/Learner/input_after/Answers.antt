-- The input up to the place, and after it.
use Rattle.paxos_learner.proofs.Keeping.{input_parts, front_is}
use Rattle.paxos_learner.proofs.learner.Learner.input_after.Goals as goal

pub returns : goal.returns
returns c =
    let kept = c.self.invariant in
    rw (c.after.ensures, ← c.self.view_is, ← front_is kept) (input_parts _ _ kept.input c.args.place)
