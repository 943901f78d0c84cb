use Rattle.group_process.proofs.RunsMayHear.{may_hear}
use Rattle.group_process.proofs.laws.runs_may_hear.Goals as goal

pub returns : goal.returns
returns c = λ p group size session. may_hear p group c.networks_carry.ensures.runs c.spelling_is_short.ensures.short size session
