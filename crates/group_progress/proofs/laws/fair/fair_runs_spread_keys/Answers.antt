use Rattle.group_progress.proofs.Starting.{reached}
use Rattle.group_progress.proofs.Told.{all_read}
use Rattle.group_progress.proofs.laws.fair.fair_runs_spread_keys.Goals as goal

pub returns : goal.returns
returns c = λ p group list w members leader b run j n m q size session leads most led fair node own is_up.
    let below = c.what_lies_below.ensures in
    let laws = below.fair.more.laws in
    let good = reached laws.events p group size session list w leads in
    all_read below.tell laws.events laws.tests below.fair.few run good most led fair below.fair.more.reads laws.keys j n m q node own is_up
