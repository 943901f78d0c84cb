use Rattle.std.proofs.Common.{◌≡◌, ◌+◌, ◌-◌, map}
use Rattle.std.specs.List.{range_with_len}
use Rattle.group_wire.specs.Traffic.{grown, handed}
use Rattle.group_wire.proofs.sending.send_to_all.Given as goal

-- with the datagrams that are still to come, it is all
abbrev pub invariant-loop-node : goal.invariant-loop-node
invariant-loop-node g l =
    grown (g.T.Wire.traffic l.wire) (handed (map (λ i. record { to = i; bytes = l.bytes }) (range_with_len l.node (l.size + 1 - l.node))))
    ≡ grown (g.T.Wire.traffic l.initial.wire) (handed (map (λ i. record { to = i; bytes = l.bytes }) (range_with_len 1 l.size)))
