-- What is kept is from the next place on, as before.
use Rattle.std.proofs.Common.{◌≡◌, ◌+◌, arith, length, rules}
use Rattle.paxos_proposer.proofs.PassedVotes.{ahead_heard}
use Rattle.paxos_proposer.proofs.proposer.Proposer.on_promise.Goals as goal

pub invariant_of-self-2 : goal.invariant_of-self-2
invariant_of-self-2 c =
    let h = c.self.invariant in
    let next : c.next_place.result ≡ c.self.inside.first + length c.self.inside.values.items =
    rw (← c.self.view_is) at c.next_place.ensures.next in
    record {
      few = h.few;
      nodes = search rules;
      reach = search rules;
      ahead =
          grind (arith, ahead_heard);
      places = h.places;
    }
