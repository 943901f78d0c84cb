use Rattle.std.proofs.Common.{◌≡◌}
use Rattle.group_sim.specs.Groups.{learned_at}
use Rattle.group_sim.proofs.showing.learned.Given as goal

abbrev pub invariant-loop-before : goal.invariant-loop-before
invariant-loop-before l = l.found ≡ learned_at l.world l.before l.place
