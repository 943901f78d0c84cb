use Rattle.std.proofs.Common.{arith}
use Rattle.std.proofs.lemmas.Bool.Decides.{nat_tests}
use Rattle.paxos_acceptor.proofs.Ranges.{promise_in_ranges, record_in_order, record_within, stored_in_order}
use Rattle.paxos_acceptor.proofs.acceptor.Acceptor.prepare.Goals as goal

pub part_from-requires-clause-in_order : goal.part_from-requires-clause-in_order
part_from-requires-clause-in_order g c = rw c.as_slice.ensures (record_in_order _ _ c.self.invariant.ranges)

pub part_from-requires-clause-places : goal.part_from-requires-clause-places
part_from-requires-clause-places g c = rw c.as_slice.ensures (record_within _ _ c.self.invariant.ranges)

pub save_to-requires-clause-ascending : goal.save_to-requires-clause-ascending
save_to-requires-clause-ascending g c = λ h. stored_in_order _ _ _ c.self.invariant.ranges (c.self.invariant.in_step h c.if-self.false)

pub invariant_of-self-2 : goal.invariant_of-self-2
invariant_of-self-2 g c = grind (arith, nat_tests, promise_in_ranges)
