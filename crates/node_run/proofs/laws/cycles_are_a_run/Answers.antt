use Rattle.node_run.proofs.Running.{runs_as_process}
use Rattle.node_run.proofs.laws.cycles_are_a_run.Goals as goal

pub returns : goal.returns
returns g c me program store end plan from to before after result h = runs_as_process c.deeds_go_on.ensures result h
