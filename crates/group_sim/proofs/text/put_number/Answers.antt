use Rattle.std.proofs.Common.{[], ◌∷◌, rules}
use Rattle.group_sim.proofs.Writing.{failed}
use Rattle.group_sim.proofs.text.put_number.Goals as goal

pub returns-in_err-put : goal.returns-in_err-put
returns-in_err-put g c = failed _ (_ ∷ []) (search rules) c.in_err-put.ensures
