use Rattle.group_rules.proofs.OverlappingBatches.{batches_may_overlap}
use Rattle.group_rules.proofs.laws.reachable.batches_may_overlap.Goals as goal

pub returns : goal.returns
returns c = batches_may_overlap
