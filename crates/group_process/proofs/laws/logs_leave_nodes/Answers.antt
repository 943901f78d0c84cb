use Rattle.group_process.proofs.GroupLogs.{group_log}
use Rattle.group_process.proofs.laws.logs_leave_nodes.Goals as goal

pub returns : goal.returns
returns c = record {
  nodes = group_log c.runs_are_histories.ensures;
  only = λ p group runs others log now other h g. c.logs_have_one_end.ensures.nodes _ log now other h.nodes g.nodes;
}
