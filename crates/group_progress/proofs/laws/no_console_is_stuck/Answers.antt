use Rattle.group_progress.proofs.Going.{stay, then}
use Rattle.group_progress.proofs.Showing.{may_show}
use Rattle.group_progress.proofs.Starting.{reached}
use Rattle.group_progress.proofs.laws.no_console_is_stuck.Goals as goal

pub returns : goal.returns
returns c = λ p group list w members size session leads i m q n own up low.
    let below = c.what_lies_below.ensures in
    let good = reached below.fair.more.laws.events p group size session list w leads in
    then (may_show below.played.show members _ w good i m q n own up low)
    (λ v s. stay (record { node = s.node; there = s.there; shown = s.shown }))
