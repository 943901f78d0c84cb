use Rattle.std.proofs.Common.{◌≡◌, take}
use Rattle.paxos_disk.proofs.log.shortening.are_same_votes.Given as goal

abbrev pub invariant-loop-index : goal.invariant-loop-index
invariant-loop-index l = take l.index l.one ≡ take l.index l.other
