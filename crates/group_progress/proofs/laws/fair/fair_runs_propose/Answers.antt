use Rattle.group_progress.proofs.FairStages.{proposes_on}
use Rattle.group_progress.proofs.Starting.{reached}
use Rattle.group_progress.proofs.laws.fair.fair_runs_propose.Goals as goal

pub returns : goal.returns
returns c = λ p group list w members leader b run n m q proposer vote size session leads most led fair is_up has among.
    let laws = c.what_lies_below.ensures.fair in
    let good = reached laws.more.laws.events p group size session list w leads in
    proposes_on laws run good most led fair n is_up proposer has vote among
