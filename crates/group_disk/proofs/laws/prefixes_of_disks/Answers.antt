use Rattle.group_disk.proofs.DiskPrefixes.{log_prefix}
use Rattle.group_disk.proofs.laws.prefixes_of_disks.Goals as goal

pub returns : goal.returns
returns c = log_prefix
