use Rattle.node_io.proofs.Keyboards.{all_given}
use Rattle.node_io.proofs.laws.taken_in_is_given.Goals as goal

pub returns : goal.returns
returns c = all_given
