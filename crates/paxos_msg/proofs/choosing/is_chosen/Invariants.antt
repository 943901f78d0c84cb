-- No ballot of the messages up to here has chosen the value.
use Rattle.std.specs.Prelude.{slice_index_or}
use Rattle.std.proofs.Common.{◌≡◌, ℕ, ◌<◌}
use Rattle.paxos_msg.specs.declared.ballot.Ballot.{Ballot}
use Rattle.paxos_msg.specs.declared.message.Body.TheVariants.{Accepted}
use Rattle.paxos_msg.specs.Batches.{Msg}
use Rattle.paxos_msg.specs.Chosen.{IsChosenBy}
use Rattle.paxos_msg.proofs.choosing.is_chosen.Given as goal

abbrev pub invariant-loop-i : goal.invariant-loop-i
invariant-loop-i l =
    (i k : ℕ) (b : Ballot) → IsChosenBy l.size l.sent b l.place l.value → k < l.i
    → (let m : Msg = record { sender = i; body = Accepted b l.place l.value } in ¬ (slice_index_or l.sent k m ≡ m))
