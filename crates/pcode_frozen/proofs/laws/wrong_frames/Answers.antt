use Rattle.std.proofs.Common.{arith, refl}
use Rattle.pcode_ops.specs.Decoding.{instr_of}
use Rattle.pcode_frozen.proofs.laws.wrong_frames.Goals as goal

pub returns-clause-links : goal.returns-clause-links
unfolding instr_of
returns-clause-links c = (refl, refl)

pub returns-clause-links_told : goal.returns-clause-links_told
returns-clause-links_told c = λ pairs h. omega (arith, (h.frames.each 3 _ _ refl refl).2)

pub returns-clause-bases : goal.returns-clause-bases
unfolding instr_of
returns-clause-bases c = (refl, refl)

pub returns-clause-bases_told : goal.returns-clause-bases_told
returns-clause-bases_told c = λ pairs h. omega (arith, (h.frames.each 3 _ _ refl refl).0)
