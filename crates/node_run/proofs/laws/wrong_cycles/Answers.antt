use Rattle.node_run.proofs.WrongCycles.{bytes_left, no_steps, output_left, request_left, unseen}
use Rattle.node_run.proofs.laws.wrong_cycles.Goals as goal

pub returns : goal.returns
returns g c = record {
  bytes_left = bytes_left g.S.Store.kind;
  request_left = request_left g.S.Store.kind;
  unseen = unseen g.S.Store.kind;
  no_steps = no_steps g.S.Store.kind;
  output_left = output_left g.S.Store.kind;
}
