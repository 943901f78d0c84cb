-- There are as many datagrams as lengths.
use Rattle.std.proofs.Common.{arith}
use Rattle.std.proofs.lemmas.Bool.Decides.{nat_tests}
use Rattle.group_udp.proofs.Kept.{cut_counts}
use Rattle.group_udp.proofs.own_datagrams.OwnDatagrams.is_empty.Goals as goal

pub returns : goal.returns
returns c = grind (arith, nat_tests, cut_counts c.self.inside.bytes.items c.self.inside.lengths.items c.self.invariant.whole)
