-- A place more has at most 32 keys more.
use Rattle.std.proofs.Common.{arith}
use Rattle.std.proofs.lemmas.Bool.Decides.{nat_tests}
use Rattle.paxos_learner.proofs.Keeping.{ends_at, longer, no_fewer}
use Rattle.paxos_learner.proofs.input.Input.enter.Goals as goal

pub invariant_of-self : goal.invariant_of-self
invariant_of-self c =
    grind (arith, nat_tests, longer, ends_at, no_fewer)
