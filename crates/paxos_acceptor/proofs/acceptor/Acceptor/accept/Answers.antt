use Rattle.std.proofs.Common.{arith}
use Rattle.std.proofs.lemmas.Bool.Decides.{nat_tests}
use Rattle.paxos_acceptor.proofs.Ranges.{record_in_order, stored_in_order, vote_in_ranges}
use Rattle.paxos_acceptor.proofs.acceptor.Acceptor.accept.Goals as goal

pub find_vote-vote-requires : goal.find_vote-vote-requires
find_vote-vote-requires g c = rw c.as_slice.ensures (record_in_order _ _ c.self.invariant.ranges)

pub save_vote-saved-requires-clause-in_order : goal.save_vote-saved-requires-clause-in_order
save_vote-saved-requires-clause-in_order g c =
    rw (c.into_vec-votes.ensures, c.replace.ensures.value) (record_in_order _ _ c.self.invariant.ranges)

pub save_vote-saved-requires-clause-ascending : goal.save_vote-saved-requires-clause-ascending
save_vote-saved-requires-clause-ascending g c =
    λ h. stored_in_order _ _ _ c.self.invariant.ranges (c.self.invariant.in_step h c.if-self.false)

pub invariant_of-self-2 : goal.invariant_of-self-2
invariant_of-self-2 g c =
    grind (arith, nat_tests, vote_in_ranges)
