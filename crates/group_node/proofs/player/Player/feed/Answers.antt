use Rattle.std.proofs.Common.{[], ◌∷◌, arith}
use Rattle.group_node.proofs.player.Player.feed.Goals as goal

pub returns-in-Some : goal.returns-in-Some
returns-in-Some c = (c.in-Some.echo ∷ [], grind arith)
