-- The rule of a Submit is its sentence.
use Rattle.paxos_msg.proofs.laws.sending_rules.Goals as goal

pub returns-clause-submit : goal.returns-clause-submit
returns-clause-submit c size i typed learned sent r v = (
  λ h. (h.own.has_key, λ key k. (h.own.at_node key k, h.known key k)),
  λ h. record { own = record { has_key = h.0; at_node = λ key k. (h.1 key k).0 }; known = λ key k. (h.1 key k).1 },
)
