-- The datagram comes last.
use Rattle.std.proofs.Common.{arith}
use Rattle.group_udp.proofs.Kept.{cut_counts, kept_more}
use Rattle.group_udp.proofs.own_datagrams.OwnDatagrams.push.Goals as goal

pub returns-clause-kept : goal.returns-clause-kept
returns-clause-kept c _ =
    let counts = cut_counts c.self.inside.bytes.items c.self.inside.lengths.items c.self.invariant.whole in
    let has = c.has_room.ensures.0 c.if-not-has_room.false in
    let more = kept_more _ _ c.args.datagram.now _ c.self.invariant (grind (arith, counts, has)) (grind (arith, counts, has))
    c.fill_from_slice.ensures.count c.fill_from_slice.ensures.items c.push_back.ensures.items in
    grind (arith, more)

pub invariant_of-self : goal.invariant_of-self
invariant_of-self c =
    let counts = cut_counts c.self.inside.bytes.items c.self.inside.lengths.items c.self.invariant.whole in
    let has = c.has_room.ensures.0 c.if-not-has_room.false in
    (kept_more _ _ c.args.datagram.now _ c.self.invariant (grind (arith, counts, has)) (grind (arith, counts, has))
    c.fill_from_slice.ensures.count c.fill_from_slice.ensures.items c.push_back.ensures.items).0
