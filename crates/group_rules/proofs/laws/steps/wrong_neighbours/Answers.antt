use Rattle.std.proofs.Common.{◌≡◌, ◌⊎◌, arith}
use Rattle.std.proofs.lemmas.Bool.Decides.{nat_tests}
use Rattle.paxos_msg.specs.Batches.{Change}
use Rattle.group_rules.specs.Rules.{Falls, StartsUp, WorldState}
use Rattle.group_rules.proofs.laws.steps.wrong_neighbours.Goals as goal

-- node 6 stays as it was
started : {w v : WorldState} {c : Change} → StartsUp w v 9 ⊎ Falls w v 9 c → v.seats 6 ≡ w.seats 6
started either = grind (arith, nat_tests)

pub returns : goal.returns
returns c = record {
  tick = λ h. grind (arith, h.rest.others 6);
  run = λ h. grind (arith, h.rest.others 6);
  release = λ h. grind (arith, h.rest.others 6);
  crash = λ h. grind (arith, h.rest.others 6);
  start = λ h. let same = started h.2 in grind arith;
  fall = λ h. let same = started h.2 in grind arith;
  program = λ h. grind arith;
  size = λ h. grind arith;
}
