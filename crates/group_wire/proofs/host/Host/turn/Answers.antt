use Rattle.std.proofs.Common.{arith}
use Rattle.group_wire.proofs.Acting.{turn_acts_by}
use Rattle.group_wire.proofs.Going.{call_stays}
use Rattle.group_wire.proofs.host.Host.turn.Goals as goal

pub returns-clause-stays : goal.returns-clause-stays
returns-clause-stays g c = grind (arith, call_stays)

pub returns-clause-acts : goal.returns-clause-acts
returns-clause-acts g c = turn_acts_by _ c.take_turn-turned.ensures.turned c.unreleased-2.ensures.replay
