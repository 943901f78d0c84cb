use Rattle.std.proofs.Common.{refl}
use Rattle.group_node.proofs.Exact.{exact_start}
use Rattle.group_node.proofs.player.Player.begin.Goals as goal

pub returns-clause-exact : goal.returns-clause-exact
returns-clause-exact c =
    λ x. exact_start x _ (rw c.in-Ok.ensures.program c.in-Ok.ensures.start) refl refl refl c.in_ok-with_capacity.ensures
