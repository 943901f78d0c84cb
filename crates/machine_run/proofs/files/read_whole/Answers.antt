use Rattle.std.proofs.Common.{◌++◌, ◌∙◌, take, inr, arith}
use Rattle.std.proofs.KnownBytes.{Consumes-trans}
use Rattle.std.proofs.lemmas.Grind.{common_steps}
use Rattle.machine_run.proofs.files.read_whole.Goals as goal

pub returns-then-n-len-clause-front : goal.returns-then-n-len-clause-front
returns-then-n-len-clause-front g c = (
  c.loop.bytes.items ++ take c.in-Ok.n c.read_some.new.buffer,
  Consumes-trans _ _ _ _ _ c.loop.invariant.whole c.in-Ok.ensures.bytes.0,
  inr (c.in-Ok.ensures.faults ∙ c.loop.invariant.faults, grind (arith, common_steps)),
)

pub returns-then-is_err-clause-front : goal.returns-then-is_err-clause-front
returns-then-is_err-clause-front g c = (
  c.loop.bytes.items ++ take c.in-Ok.n c.read_some.new.buffer,
  Consumes-trans _ _ _ _ _ c.loop.invariant.whole c.in-Ok.ensures.bytes.0,
  (c.in-Ok.ensures.faults ∙ c.loop.invariant.faults, grind (arith, common_steps)),
)
