use Rattle.group_disk.proofs.DiskNetworks.{folder_log_of_network}
use Rattle.group_disk.proofs.laws.networks_carry_over_disks.Goals as goal

pub returns : goal.returns
returns c = λ p group folder starts log session h.
    folder_log_of_network p group folder starts log h (c.networks_carry.ensures.starts p group _ log session)
