use Rattle.std.proofs.Common.{◌≡◌, ◌≤◌, ℕ, None}
use Rattle.paxos_msg.specs.declared.limits.TheConstants.{PLACES}
use Rattle.group_sim.specs.Groups.{learned_at}
use Rattle.group_sim.proofs.showing.places_end.Given as goal

abbrev pub invariant-loop-before : goal.invariant-loop-before
invariant-loop-before l = record {
  few : l.end ≤ PLACES;
  none : (s : ℕ) → l.end ≤ s → learned_at l.world l.before s ≡ None;
}
