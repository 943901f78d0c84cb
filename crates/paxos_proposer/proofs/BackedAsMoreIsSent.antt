-- What was sent is sent still as more is sent, and the promises that a proposer has are.
use Rattle.std.proofs.Common.{ℕ, ◌++◌, [], ◌∷◌, Bool, Option, arith}
use Rattle.std.proofs.lemmas.List.Elements.{Contains-append_left}
use Rattle.std.proofs.lemmas.Bool.Decides.{nat_tests}
use Rattle.paxos_msg.specs.declared.ballot.Ballot.{Ballot}
use Rattle.paxos_msg.specs.Batches.{Body, Msg, Sent, Vote}
use Rattle.paxos_msg.specs.Messages.{IsSent}
use Rattle.paxos_proposer.specs.Backed.{HasPromises}

-- what was sent is sent still after one more message
pub stays_with : (sent : Sent) (m : Msg) (i : ℕ) (body : Body) → IsSent sent i body → IsSent (sent ++ m ∷ []) i body
stays_with sent m i body h = Contains-append_left sent (m ∷ []) (record { sender = i; body = body }) h

-- promises are had still
pub heard_stays : (sent next : Sent) → ((i : ℕ) (body : Body) → IsSent sent i body → IsSent next i body)
    → (b : Ballot) (s : ℕ) (members : ℕ → Bool) (kept : Option Vote) → HasPromises sent b s members kept
    → HasPromises next b s members kept
heard_stays sent next later b s members kept h = grind (arith, nat_tests, later)
