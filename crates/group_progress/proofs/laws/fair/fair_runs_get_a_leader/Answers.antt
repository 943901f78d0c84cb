use Rattle.group_progress.proofs.Covered.{leads_on}
use Rattle.group_progress.proofs.Starting.{reached}
use Rattle.group_progress.proofs.laws.fair.fair_runs_get_a_leader.Goals as goal

pub returns : goal.returns
returns c = λ p group list w members leader b run size session leads most led fair.
    let below = c.what_lies_below.ensures in
    let laws = below.fair.more.laws in
    leads_on laws.events laws.tests below.fair.few run (reached laws.events p group size session list w leads) most led fair
