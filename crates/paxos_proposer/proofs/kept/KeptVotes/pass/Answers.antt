-- The reports without the first place make the votes above it. Their greatest place is the same, or
-- there are no votes.
use Rattle.std.proofs.Common.{◌≡◌, ◌+◌, ◌≤◌, arith}
use Rattle.std.proofs.lemmas.Bool.Decides.{nat_tests}
use Rattle.std.specs.Prelude.{All}
use Rattle.paxos_proposer.specs.KeptVotes.{reported_votes}
use Rattle.paxos_msg.specs.Places.{votes_from}
use Rattle.paxos_proposer.proofs.ByPlace.{votes_of-cut}
use Rattle.paxos_proposer.proofs.GreatestPlace.{any_from, is_kept_from-votes_from}
use Rattle.paxos_proposer.proofs.kept.KeptVotes.pass.Goals.{After-swap_remove}
use Rattle.paxos_proposer.proofs.kept.KeptVotes.pass.Goals as goal

from : (c : After-swap_remove) → All (λ vote. c.args.place ≤ vote.place) (reported_votes c.self.inside.reports.entries)
from c = rw (← c.self.view_is) at c.requires

cut : (c : After-swap_remove) → reported_votes c.swap_remove.new.self.entries
    ≡ votes_from (c.args.place + 1) (reported_votes c.self.inside.reports.entries)
cut c = votes_of-cut c.self.inside.reports.entries _ c.args.place c.swap_remove.ensures.updates.0 (from c)

pub invariant_of-self : goal.invariant_of-self
invariant_of-self c = grind (arith, nat_tests, cut (goal.at.invariant_of-self c).After-swap_remove, is_kept_from-votes_from)

pub invariant_of-self-else-eq : goal.invariant_of-self-else-eq
invariant_of-self-else-eq c =
    let at = (goal.at.invariant_of-self-else-eq c).After-swap_remove in
    grind (arith, nat_tests, cut at, is_kept_from-votes_from, any_from _ _ (from at))

pub returns-then-eq : goal.returns-then-eq
returns-then-eq c = rw (← c.self.view_is) (cut (goal.at.returns-then-eq c).After-swap_remove)

pub returns-else-eq : goal.returns-else-eq
returns-else-eq c = rw (← c.self.view_is) (cut (goal.at.returns-else-eq c).After-swap_remove)
