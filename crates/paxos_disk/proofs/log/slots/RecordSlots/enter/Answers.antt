use Rattle.std.proofs.Common.{arith}
use Rattle.paxos_disk.proofs.log.slots.RecordSlots.enter.Goals as goal

pub returns-in-Promise : goal.returns-in-Promise
returns-in-Promise c =
    grind (arith, c.entries_stay_in_ranges.ensures.stays _ _ _ c.requires.ranges c.requires.entry)

pub returns-in_ok-reach-in-Ballotted : goal.returns-in_ok-reach-in-Ballotted
returns-in_ok-reach-in-Ballotted c =
    grind (arith, c.entries_stay_in_ranges.ensures.stays _ _ _ c.requires.ranges c.requires.entry)
