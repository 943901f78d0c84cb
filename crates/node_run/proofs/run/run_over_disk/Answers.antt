use Rattle.node_run.proofs.run.run_over_disk.Goals as goal

pub returns-clause-ends : goal.returns-clause-ends
returns-clause-ends g c = rw (c.new-store.ensures, c.me.ensures.me) at c.run_node-end.ensures.ends

pub returns-clause-good : goal.returns-clause-good
returns-clause-good g c = rw c.run_node-end.ensures.owned at c.disk.ensures.good
