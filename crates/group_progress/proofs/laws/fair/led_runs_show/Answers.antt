use Rattle.group_progress.proofs.Played.{all_is_shown}
use Rattle.group_progress.proofs.Starting.{reached}
use Rattle.group_progress.proofs.laws.fair.led_runs_show.Goals as goal

pub returns : goal.returns
returns c = λ p group list w members leader b run i n size session leads led own played.
    let laws = c.what_lies_below.ensures.played in
    let good = reached laws.show.events p group size session list w leads in
    all_is_shown laws run good led i n own played
