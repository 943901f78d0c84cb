use Rattle.std.proofs.Common.{[], ◌∷◌, None, append-nil, arith}
use Rattle.paxos_disk.specs.Slots.{slotted_votes}
use Rattle.paxos_disk.proofs.Votes.{one_slot_more, slotted_votes_both}
use Rattle.paxos_disk.proofs.log.slots.reach.Goals as goal

pub loop-slots-preserved : goal.loop-slots-preserved
loop-slots-preserved c =
    let slots = c.loop-slots.slots.items in
    let places = one_slot_more 0 slots c.loop-slots.invariant.places in
    grind (arith, slotted_votes_both slots (None ∷ []), append-nil (slotted_votes slots), places)
