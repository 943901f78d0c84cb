use Rattle.std.proofs.Common.{refl}
use Rattle.group_protocol.proofs.outbox.Outbox.put.Goals as goal

pub returns-clause-packets : goal.returns-clause-packets
returns-clause-packets c = rw (c.in-Ok.ensures.ok, c.written-bytes.ensures, ← c.self.view_is) refl
