use Rattle.std.proofs.Common.{◌++◌, length}
use Rattle.group_world.specs.Group.{new_world, world_state}
use Rattle.group_progress.specs.GoingOn.{keys_waiting}
use Rattle.group_progress.proofs.Going.{then_at}
use Rattle.group_progress.proofs.ShowingAll.{show_all}
use Rattle.group_progress.proofs.Starting.{reached}
use Rattle.group_progress.proofs.Within.{leads_then}
use Rattle.group_progress.proofs.laws.all_can_be_read_and_shown.Goals as goal

pub returns : goal.returns
returns c = λ p group list w members steps size session leads most left low.
    let laws = c.what_lies_below.ensures.played.show in
    let read = c.no_world_is_stuck.ensures p group list w members size session leads most left in
    let there = leads_then (new_world p group) list read.events w read.end leads read.leads in
    let good = reached laws.events p group size session (list ++ read.events) read.end there in
    then_at read (show_all laws members (length (world_state w).sent) steps low w.group.size (keys_waiting members w) read.end good
    read.holds)
