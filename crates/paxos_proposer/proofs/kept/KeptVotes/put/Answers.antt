-- The reports with one more make the votes with it, and the greatest place is that of the vote
-- where it is above.
use Rattle.std.proofs.Common.{arith}
use Rattle.std.proofs.lemmas.Bool.Decides.{nat_tests}
use Rattle.paxos_proposer.specs.declared.kept.Report.{Report}
use Rattle.paxos_proposer.proofs.ByPlace.{votes_of-put}
use Rattle.paxos_proposer.proofs.GreatestPlace.{is_kept_from-with_vote}
use Rattle.paxos_proposer.proofs.kept.KeptVotes.put.Goals as goal

pub invariant_of-self : goal.invariant_of-self
invariant_of-self c =
    let updates = rw c.unwrap.ensures at c.insert.ensures.updates in
    let report : Report = record { ballot = c.args.vote.ballot; value = c.args.vote.value } in
    rw (votes_of-put _ c.insert.new.self.entries c.args.vote.place report updates.0, c.max-self-inside.ensures)
    (grind (arith, nat_tests, is_kept_from-with_vote))

pub returns-clause-votes : goal.returns-clause-votes
returns-clause-votes c =
    let updates = rw c.unwrap.ensures at c.insert.ensures.updates in
    rw (← c.self.view_is) (votes_of-put _ _ c.args.vote.place (record { ballot = c.args.vote.ballot; value = c.args.vote.value }) updates.0)
