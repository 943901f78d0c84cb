use Rattle.std.proofs.Common.{take}
use Rattle.group_world.specs.Event.{LeadsBy}
use Rattle.group_world.specs.Group.{new_world}
use Rattle.group_world.proofs.performing.run.Given as goal

-- the first events of the list, up to this one, have happened
abbrev pub invariant-loop-event : goal.invariant-loop-event
invariant-loop-event l = LeadsBy (new_world l.program (record { size = l.size; session = l.session })) (take l.event l.events) l.world
