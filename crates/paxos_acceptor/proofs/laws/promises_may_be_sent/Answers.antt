use Rattle.std.proofs.Common.{arith}
use Rattle.std.proofs.lemmas.Bool.Decides.{nat_tests}
use Rattle.paxos_msg.specs.Records.{changed}
use Rattle.paxos_msg.specs.declared.record.Change.TheVariants.{Promise}
use Rattle.paxos_acceptor.proofs.Ranges.{record_within}
use Rattle.paxos_acceptor.proofs.Reports.{reports}
use Rattle.paxos_acceptor.proofs.laws.promises_may_be_sent.Goals as goal

pub returns-clause-sends : goal.returns-clause-sends
returns-clause-sends c size i from typed learned sent r b ranges h =
    let places = record_within size r ranges in
    grind (arith, nat_tests, reports r from h.in_order places, reports (changed r (Promise b)) from h.in_order places)
