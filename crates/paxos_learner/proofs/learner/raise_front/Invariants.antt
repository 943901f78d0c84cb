-- The input stays that of the map and grows, and each step enters a place of 65,536.
use Rattle.std.proofs.Common.{◌-◌, ◌≤◌, length}
use Rattle.paxos_learner.specs.Kept.{IsInputOf}
use Rattle.paxos_learner.proofs.learner.raise_front.Given as goal

abbrev pub invariant-loop-value : goal.invariant-loop-value
invariant-loop-value l = record {
  input : IsInputOf l.learned.map l.input;
  longer : length l.fn.input.ends ≤ length l.input.ends;
}

abbrev pub decreases-loop-value : goal.decreases-loop-value
decreases-loop-value l = 65536 - length l.input.ends
