use Rattle.group_progress.proofs.Starting.{all_read, reached}
use Rattle.group_progress.proofs.laws.all_can_be_read_within.Goals as goal

pub returns : goal.returns
returns c = λ p group list w members k size session leads most left few.
    let below = c.what_lies_below.ensures in
    let good = reached below.fair.more.laws.events p group size session list w leads in
    all_read below.fair.more below.played.learn members w good left k few most
