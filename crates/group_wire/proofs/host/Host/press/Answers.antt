use Rattle.group_wire.proofs.Typing.{typing_acts}
use Rattle.group_wire.proofs.host.Host.press.Goals as goal

pub returns-clause-acts : goal.returns-clause-acts
returns-clause-acts g c = typing_acts c.press_all.ensures.pressed
