use Rattle.std.proofs.Common.{◌≡◌, take}
use Rattle.paxos_disk.specs.Slots.{slotted_votes}
use Rattle.paxos_disk.proofs.log.slots.votes_of.Given as goal

abbrev pub invariant-loop-slot : goal.invariant-loop-slot
invariant-loop-slot l = l.votes.items ≡ slotted_votes (take l.slot-index l.slots)
