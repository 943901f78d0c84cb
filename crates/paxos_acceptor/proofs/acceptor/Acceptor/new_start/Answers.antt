use Rattle.paxos_acceptor.proofs.Ranges.{stored_in_order}
use Rattle.paxos_acceptor.proofs.acceptor.Acceptor.new_start.Goals as goal

pub save_to-requires-clause-ascending : goal.save_to-requires-clause-ascending
save_to-requires-clause-ascending g c = λ h. stored_in_order _ _ _ c.self.invariant.ranges (c.self.invariant.in_step h c.if-self.false)
