use Rattle.group_process.proofs.NetworksCarry.{delivered_log, network_log}
use Rattle.group_process.proofs.laws.networks_carry.Goals as goal

pub returns : goal.returns
returns c = record {
  runs = λ p group runs log session h. network_log c.spelling_is_read.ensures.read group session p runs log h;
  starts = λ p group starts log session h. delivered_log c.spelling_is_read.ensures.read group session p starts log h;
}
