-- The room is that of the two rings.
use Rattle.std.proofs.Common.{arith}
use Rattle.std.proofs.lemmas.Bool.Decides.{nat_tests}
use Rattle.group_udp.proofs.Kept.{cut_counts}
use Rattle.group_udp.proofs.own_datagrams.OwnDatagrams.has_room.Goals as goal

pub returns-then-has_length : goal.returns-then-has_length
returns-then-has_length c =
    grind (arith, nat_tests, cut_counts c.self.inside.bytes.items c.self.inside.lengths.items c.self.invariant.whole)

pub returns-else-has_length : goal.returns-else-has_length
returns-else-has_length c =
    grind (arith, nat_tests, cut_counts c.self.inside.bytes.items c.self.inside.lengths.items c.self.invariant.whole)
