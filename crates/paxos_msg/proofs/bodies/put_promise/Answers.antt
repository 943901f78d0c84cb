use Rattle.std.proofs.Common.{append_assoc, rules}
use Rattle.paxos_msg.proofs.bodies.put_promise.Goals as goal

pub returns : goal.returns
returns c = record {
  items =
      rw (
        c.put_votes.ensures.items,
        c.put_byte.ensures.items,
        c.put_number-2.ensures.items,
        c.put_number.ensures.items,
        c.put_ballot.ensures.items,
      ) (simp append_assoc);
  len = search rules;
  capacity = search rules;
}
