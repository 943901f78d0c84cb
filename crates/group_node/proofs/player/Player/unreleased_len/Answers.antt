use Rattle.group_node.proofs.Exact.{exact_count}
use Rattle.group_node.proofs.player.Player.unreleased_len.Goals as goal

pub returns : goal.returns
returns c = λ x h. exact_count c.len.result c.run_is_after.ensures c.len.ensures.len h
