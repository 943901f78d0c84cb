-- All votes may be at open places.
use Rattle.std.proofs.Common.{arith}
use Rattle.group_progress.proofs.laws.no_world_is_stuck.Goals as goal

pub returns : goal.returns
returns c =
    λ p group list w members size session leads most left.
    (c.all_can_be_read_within.ensures p group list w members left.top size session leads most left (λ i m own at. omega arith)).reaches
