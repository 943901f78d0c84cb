use Rattle.group_progress.proofs.FirstWorld.{started}
use Rattle.group_progress.proofs.SomeRun.{some_run}
use Rattle.group_progress.proofs.Starting.{good_at_first}
use Rattle.group_progress.proofs.laws.fair.some_run_is_fair.Goals as goal

pub returns : goal.returns
returns c = λ p group size session.
    let below = c.what_lies_below.ensures.fair.more in
    let laws = below.laws in
    some_run laws.events laws.tests below.reads.front p group (started laws.events p group (good_at_first laws.events p group size session))
