-- The learned keys are those of the input and those kept beside it.
use Rattle.std.proofs.Common.{inl, inr}
use Rattle.paxos_learner.proofs.Keeping.{kept_stands, stands_kept}
use Rattle.paxos_learner.proofs.learner.Learner.has_learned.Goals as goal

pub returns-then-has_read : goal.returns-then-has_read
returns-then-has_read c = (
  λ found. rw (← c.self.view_is) (kept_stands c.self.invariant _ (inl (rw (← c.self.view_is) at c.has_read.ensures.0 found))),
  λ at. c.if-has_read.true,
)

pub returns-else-has_read : goal.returns-else-has_read
returns-else-has_read c = rw (← c.self.view_is) (
  λ found. kept_stands c.self.invariant _ (inr (c.contains.ensures.0 found)),
  λ at. elim (stands_kept c.self.invariant _ at) [
    | inl read ↦ let is = (rw (← c.self.view_is) at c.has_read.ensures).1 read in absurd cc
    | inr there ↦ c.contains.ensures.1 there
  ],
)
