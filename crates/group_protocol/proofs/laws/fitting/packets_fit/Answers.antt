use Rattle.std.proofs.Common.{refl}
use Rattle.group_protocol.proofs.PacketsFit.{submit_fits}
use Rattle.group_protocol.proofs.laws.fitting.packets_fit.Goals as goal

pub returns-clause-submit : goal.returns-clause-submit
returns-clause-submit c n v h e = submit_fits n h n.waiting refl v e
