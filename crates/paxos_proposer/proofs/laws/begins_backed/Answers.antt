use Rattle.std.proofs.Common.{None, refl, arith}
use Rattle.std.proofs.lemmas.Grind.{common_steps}
use Rattle.std.proofs.lemmas.List.{length-replicate}
use Rattle.paxos_proposer.proofs.laws.begins_backed.Goals as goal

pub returns : goal.returns
returns c sent b from size quiet = record {
  own = refl;
  nodes = length-replicate 10 from;
  heard = λ s above. record {
    reported = λ i. None;
    promised = λ i member. grind (arith, common_steps);
    is_best = λ i member. refl;
  };
  sent_all = λ s v e. grind (arith, common_steps);
  only = λ s v said. absurd (quiet s v said);
}
