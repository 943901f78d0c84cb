use Rattle.pcode_ops.proofs.DecodedIsAt.{decoded_at, at_decoded}
use Rattle.pcode_ops.proofs.laws.decoding_is_at.Goals as goal

pub returns : goal.returns
returns c = λ code i instr j. (decoded_at code i instr j, at_decoded code i instr j)
