use Rattle.group_world.specs.Group.{new_world}
use Rattle.group_world.specs.Processes.{after_log}
use Rattle.group_progress.specs.GoingOn.{AllHaveReadAndShown, keys_waiting}
use Rattle.group_progress.proofs.ProcessesGoOn.{processes_reach}
use Rattle.group_progress.proofs.laws.no_group_is_stuck.Goals as goal

pub returns : goal.returns
returns c = λ p group log now members steps size session logged most left low.
    let w = after_log (new_world p group) log now in
    let before = c.processes_are_events.ensures (new_world p group) log now logged in
    let reach = c.all_can_be_read_and_shown.ensures p group before.0 w members steps size session before.2 most left low in
    processes_reach c.events_are_processes.ensures members w (AllHaveReadAndShown members group.size (keys_waiting members w) steps) reach
