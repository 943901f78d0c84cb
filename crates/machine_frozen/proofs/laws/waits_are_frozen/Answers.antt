use Rattle.machine_frozen.proofs.Waits.{frozen_after}
use Rattle.machine_frozen.proofs.laws.waits_are_frozen.Goals as goal

pub returns : goal.returns
returns c = frozen_after c.run_is_after.ensures
