use Rattle.pcode_ops.proofs.Apart.{are_parts}
use Rattle.pcode_ops.proofs.loading.parts.Goals as goal

pub returns-clause-parts : goal.returns-clause-parts
returns-clause-parts c = rw (c.procedures.ensures.value) (are_parts _ _ c.procedures.ensures.parts)
