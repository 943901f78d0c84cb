use Rattle.std.proofs.Common.{arith}
use Rattle.paxos_acceptor.proofs.Ranges.{promise_in_ranges, record_in_order, vote_in_ranges}
use Rattle.paxos_acceptor.proofs.laws.records_stay_in_ranges.Goals as goal

pub returns : goal.returns
returns c = grind (arith, record_in_order, promise_in_ranges, vote_in_ranges)
