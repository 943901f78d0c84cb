-- No message so far is the one.
use Rattle.std.specs.Prelude.{slice_index_or}
use Rattle.std.proofs.Common.{◌≡◌, ℕ, ◌<◌}
use Rattle.paxos_msg.specs.declared.message.Body.TheVariants.{Accepted}
use Rattle.paxos_msg.specs.Batches.{Msg}
use Rattle.paxos_msg.proofs.choosing.has_accepted.Given as goal

abbrev pub invariant-loop-i : goal.invariant-loop-i
invariant-loop-i l =
    let m : Msg = record { sender = l.node; body = Accepted l.ballot l.place l.value } in
    (k : ℕ) → k < l.i → ¬ (slice_index_or l.sent k m ≡ m)
