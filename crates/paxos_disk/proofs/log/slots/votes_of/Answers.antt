use Rattle.std.proofs.Common.{[], ◌∷◌, take, arith}
use Rattle.std.proofs.lemmas.List.{take_more}
use Rattle.paxos_disk.proofs.Votes.{slotted_votes_both}
use Rattle.paxos_disk.proofs.log.slots.votes_of.Goals as goal

pub loop-slot-preserved : goal.loop-slot-preserved
loop-slot-preserved c =
    let slots = c.args.slots.now in
    let slot = c.slot-item.result in
    let next = take_more slots c.loop-slot.slot-index slot (omega arith) in
    grind (arith, next, slotted_votes_both (take c.loop-slot.slot-index slots) (slot ∷ []), c.in_ok-push_if.ensures, c.slot-item.is)
