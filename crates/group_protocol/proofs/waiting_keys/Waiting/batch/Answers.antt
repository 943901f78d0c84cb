use Rattle.std.proofs.Common.{arith}
use Rattle.std.proofs.Math.Nat.{min_comm}
use Rattle.std.proofs.lemmas.List.{take_min}
use Rattle.group_protocol.proofs.waiting_keys.Waiting.batch.Goals as goal

pub returns-clause-same : goal.returns-clause-same
returns-clause-same c =
    grind (arith, min_comm, take_min)
