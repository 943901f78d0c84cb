use Rattle.std.proofs.Common.{inr}
use Rattle.node_udp.proofs.OverFile.{over_file}
use Rattle.node_udp.proofs.over_file.run_over_file.Goals as goal

pub returns : goal.returns
returns g c = record {
  ends = inr (
    c.run_over_disk-end.result.store.filed,
    _,
    over_file _ c.args.config c.args.program.now c.cycles_are_a_run.ensures
        (rw c.requires.fresh at c.run_over_disk-end.ensures.ends),
  );
}
