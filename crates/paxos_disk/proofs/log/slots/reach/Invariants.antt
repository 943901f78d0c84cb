use Rattle.std.proofs.Common.{◌≡◌, ◌-◌, suc, length}
use Rattle.paxos_disk.specs.Slots.{AreInSlots, slotted_votes}
use Rattle.paxos_disk.proofs.log.slots.reach.Given as goal

abbrev pub invariant-loop-slots : goal.invariant-loop-slots
invariant-loop-slots l = record {
  votes : slotted_votes l.slots.items ≡ slotted_votes l.fn.slots.items;
  places : AreInSlots 0 l.slots.items;
}

abbrev pub decreases-loop-slots : goal.decreases-loop-slots
decreases-loop-slots l = suc l.place - length l.slots.items
