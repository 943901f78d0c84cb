use Rattle.group_progress.proofs.Played.{all_is_shown}
use Rattle.group_progress.proofs.Starting.{reached}
use Rattle.group_progress.proofs.Waited.{all_is_read}
use Rattle.group_progress.proofs.laws.fair.fair_runs_go_on.Goals as goal

pub returns : goal.returns
returns c = λ p group size session list w members leader b run leads most led fair.
    let below = c.what_lies_below.ensures in
    let good = reached below.fair.more.laws.events p group size session list w leads in (
      all_is_read below.fair run good most led fair,
      λ i n node own plays. all_is_shown below.played run good led i n own plays,
    )
