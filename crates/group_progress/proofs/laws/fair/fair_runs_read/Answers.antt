use Rattle.group_progress.proofs.Starting.{reached}
use Rattle.group_progress.proofs.Waited.{all_is_read}
use Rattle.group_progress.proofs.laws.fair.fair_runs_read.Goals as goal

pub returns : goal.returns
returns c = λ p group list w members leader b run n size session leads most led fair.
    let laws = c.what_lies_below.ensures.fair in
    let good = reached laws.more.laws.events p group size session list w leads in
    all_is_read laws run good most led fair n
