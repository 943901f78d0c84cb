-- Votes are kept from the place after the new proposal on.
use Rattle.std.proofs.Common.{◌+◌, arith}
use Rattle.paxos_proposer.proofs.PassedVotes.{left_from}
use Rattle.paxos_proposer.proofs.proposer.Proposer.next_accept.Goals as goal

pub invariant_of-self-2 : goal.invariant_of-self-2
invariant_of-self-2 c =
    grind (arith, left_from (c.next_place-place.result + 1) c.self.inside.kept.votes)
