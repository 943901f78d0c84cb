-- A growth of a group of three, written out, in which a submitted key is chosen.
use Rattle.std.proofs.Common.{ℕ, inr, List, [], ◌∷◌, refl, lit<}
use Rattle.paxos_msg.specs.declared.ballot.Ballot.{Ballot}
use Rattle.paxos_msg.specs.Batches.{Grew, IsSafe, Record, Sent}
use Rattle.paxos_msg.specs.declared.message.Body.TheVariants.{Prepare, Accept, Accepted, Submit}
use Rattle.paxos_msg.specs.Messages.{IsSent}
use Rattle.paxos_msg.specs.Records.{empty_record}
use Rattle.paxos_msg.specs.Chosen.{IsChosen, is_listed}
use Rattle.paxos_msg.specs.Growth.{nothing}
use Rattle.paxos_msg.proofs.GrowthSteps.{Grown, accepts, and_sent, at_listed, at_most_refl, is_typed, key_at, none_proposed, promised, promises, safe_at_first, typed_at}

abbrev ballot : Ballot
ballot = record { round = 1; node = 1 }

abbrev pair : List ℕ
pair = 1 ∷ 2 ∷ []

abbrev r0 : ℕ → Record
r0 i = empty_record

abbrev at_first : Grown 3
at_first =
    let g0 : Grew 3 [] r0 = nothing r0 (λ k. refl) in
    record { sent = []; records = r0; grew = g0 }

-- node 2 submits its key, and nodes 1 and 2 promise
abbrev two_promise : Grown 3
two_promise =
    let submits = and_sent at_first 2 (typed_at 2) (Submit (key_at 2)) (is_typed 2) in
    let one_promises = promises submits 1 ballot 0 tt refl in
    let prepares = and_sent one_promises 1 [] (Prepare ballot 0) (refl, at_most_refl ballot) in
    promises prepares 2 ballot 0 tt refl

safe : IsSafe 3 two_promise.sent ballot 0 (key_at 2)
safe =
    safe_at_first pair (lit< tt) (promised [] (1, lit< tt, refl), (promised [] (3, lit< tt, refl), tt)) (inr (2, (0, lit< tt, refl)))

-- node 1 proposes the key, and both accept it
abbrev two_accept : Grown 3
two_accept =
    let fresh = none_proposed two_promise.sent ballot 0 refl in
    let proposes = and_sent two_promise 1 [] (Accept ballot 0 (key_at 2)) (refl, inr (fresh, safe)) in
    let one_accepts = accepts proposes 1 ballot 0 (key_at 2) (1, (4, lit< tt, refl)) (at_most_refl ballot) in
    accepts one_accepts 2 ballot 0 (key_at 2) (1, (4, lit< tt, refl)) (at_most_refl ballot)

chosen : IsChosen 3 two_accept.sent 0 (key_at 2)
chosen = (
  ballot,
  (
    is_listed pair,
    lit< tt,
    at_listed (λ i. IsSent two_accept.sent i (Accepted ballot 0 (key_at 2))) pair ((5, lit< tt, refl), ((6, lit< tt, refl), tt)),
  ),
)

pub something : (sent : Sent) × (records : ℕ → Record) × Grew 3 sent records × IsChosen 3 sent 0 (key_at 2)
something = (two_accept.sent, two_accept.records, two_accept.grew, chosen)
