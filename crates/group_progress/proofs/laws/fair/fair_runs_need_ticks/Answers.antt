use Rattle.group_progress.proofs.FirstWorld.{typed}
use Rattle.group_progress.proofs.SomeRun.{run_without_ticks}
use Rattle.group_progress.proofs.Starting.{good_at_first}
use Rattle.group_progress.proofs.laws.fair.fair_runs_need_ticks.Goals as goal

pub returns : goal.returns
returns c = λ p group size session.
    let below = c.what_lies_below.ensures.fair.more in
    let laws = below.laws in
    run_without_ticks laws.events laws.tests below.reads.front p group
    (typed laws.events p group (good_at_first laws.events p group size session))
