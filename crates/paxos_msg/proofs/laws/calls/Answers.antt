-- The theorems of `GoesOn`.
use Rattle.paxos_msg.proofs.GoesOn.{calls, halves}
use Rattle.paxos_msg.proofs.laws.calls.Goals as goal

pub returns : goal.returns
returns c = record { grew = calls; halves = halves }
