use Rattle.node_run.proofs.Cycling.{heard_none}
use Rattle.node_run.proofs.Course.{gift_both, gift_none}
use Rattle.node_run.proofs.rest.rest_unless_busy.Goals as goal

pub returns-then-is_busy-clause-looks : goal.returns-then-is_busy-clause-looks
returns-then-is_busy-clause-looks g c = gift_none _

pub returns-then-is_busy-clause-hears : goal.returns-then-is_busy-clause-hears
returns-then-is_busy-clause-hears g c = heard_none c.deeds_go_on.ensures _ _

pub returns-then-is_calling-clause-hears : goal.returns-then-is_calling-clause-hears
returns-then-is_calling-clause-hears g c = heard_none c.deeds_go_on.ensures _ _

pub returns-clause-looks : goal.returns-clause-looks
returns-clause-looks g c = gift_both c.look.ensures.came c.rest.ensures.looks
