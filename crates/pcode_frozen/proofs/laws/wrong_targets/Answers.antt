use Rattle.std.proofs.Common.{refl}
use Rattle.pcode_ops.specs.Decoding.{instr_of}
use Rattle.pcode_frozen.proofs.Wrong.{other_target}
use Rattle.pcode_frozen.proofs.laws.wrong_targets.Goals as goal

pub returns-clause-jumps : goal.returns-clause-jumps
unfolding instr_of
returns-clause-jumps c = (refl, refl)

pub returns-clause-told : goal.returns-clause-told
returns-clause-told c = other_target
