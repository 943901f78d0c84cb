-- The theorems of `GoesOn`.
use Rattle.paxos_msg.proofs.GoesOn.{stays_chosen, may_still_save, may_still_send}
use Rattle.paxos_msg.proofs.laws.sent_only_grows.Goals as goal

pub returns : goal.returns
returns c = record { chosen = stays_chosen; saving = may_still_save; sending = may_still_send }
