-- A search of the reports finds what the votes have at the place.
use Rattle.std.proofs.Common.{arith}
use Rattle.paxos_proposer.proofs.ByPlace.{vote_at-votes_of}
use Rattle.paxos_proposer.proofs.kept.KeptVotes.at.Goals as goal

pub returns-in_err-report : goal.returns-in_err-report
returns-in_err-report c = rw (← c.self.view_is) (grind (arith, vote_at-votes_of c.self.inside.reports.entries c.args.place))

pub returns : goal.returns
returns c = rw (← c.self.view_is) (grind (arith, vote_at-votes_of c.self.inside.reports.entries c.args.place))
