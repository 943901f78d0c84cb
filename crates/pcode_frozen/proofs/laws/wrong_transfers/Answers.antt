use Rattle.std.proofs.Common.{refl}
use Rattle.pcode_frozen.proofs.Wrong.{not_paired}
use Rattle.pcode_frozen.proofs.laws.wrong_transfers.Goals as goal

pub returns-clause-errors : goal.returns-clause-errors
returns-clause-errors c = (refl, refl)

pub returns-clause-told : goal.returns-clause-told
returns-clause-told c = λ h. not_paired _ _ h.transfer.1
