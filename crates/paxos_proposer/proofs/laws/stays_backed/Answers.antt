use Rattle.paxos_proposer.proofs.BackedAsMoreIsSent.{heard_stays}
use Rattle.paxos_proposer.proofs.laws.stays_backed.Goals as goal

pub returns : goal.returns
returns c sent next me p later h = record {
  own = h.own;
  nodes = h.nodes;
  heard = λ s above. heard_stays sent next later.stays _ s _ _ (h.heard s above);
  sent_all = λ s v e. later.stays me _ (h.sent_all s v e);
  only = λ s v said. h.only s v (later.quiet s v said);
}
