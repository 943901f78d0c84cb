use Rattle.std.proofs.Common.{◌≡◌, length}
use Rattle.group_wire.specs.Traffic.{grown, handed, letters_of}
use Rattle.group_wire.proofs.sending.send_all.Given as goal

-- with the packets that are still to go, it is all
abbrev pub invariant-loop-packet : goal.invariant-loop-packet
invariant-loop-packet g l =
    grown (g.T.Wire.traffic l.wire) (handed (letters_of l.size l.outbox.packets))
    ≡ grown (g.T.Wire.traffic l.initial.wire) (handed (letters_of l.size l.initial.outbox.packets))

abbrev pub decreases-loop-packet : goal.decreases-loop-packet
decreases-loop-packet g l = length l.outbox.packets
