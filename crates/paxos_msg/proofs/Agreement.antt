-- The invariant holds of all that grew, and what is chosen stays.
use Rattle.std.proofs.Common.{◌≡◌, ◌⊎◌, ℕ, inl, inr, [], sym, arith}
use Rattle.std.proofs.lemmas.Bool.Decides.{nat_tests}
use Rattle.paxos_msg.specs.declared.ballot.Ballot.{Ballot}
use Rattle.paxos_msg.specs.declared.value.Value.{Value}
use Rattle.paxos_msg.specs.Ballots.{IsAtMost, IsBelow}
use Rattle.paxos_msg.specs.Batches.{Grew, Record, Sent}
use Rattle.paxos_msg.specs.declared.message.Body.TheVariants.{Accept}
use Rattle.paxos_msg.specs.Messages.{IsSaid}
use Rattle.paxos_msg.specs.Records.{empty_record}
use Rattle.paxos_msg.specs.Chosen.{IsChosenBy}
use Rattle.paxos_msg.specs.Growth.{nothing, sends, saves}
use Rattle.paxos_msg.proofs.CountingNodes.{majorities_meet}
use Rattle.paxos_msg.proofs.Invariant.{Invariant}
use Rattle.paxos_msg.proofs.Saves.{saves_keep}
use Rattle.paxos_msg.proofs.Sends.{sends_keep}

-- the invariant holds of no messages and empty records
nothing_holds : (size : ℕ) (records : ℕ → Record) → ((i : ℕ) → records i ≡ empty_record) → Invariant size [] records
nothing_holds size records empty = grind (arith, nat_tests)

-- it holds of all that grew
pub invariant_of : {size : ℕ} {sent : Sent} {records : ℕ → Record} → Grew size sent records → Invariant size sent records
invariant_of {size} (nothing records empty) = nothing_holds size records empty
invariant_of {size} (sends sent records typed learned i body grew may) =
    sends_keep size typed learned sent records (record { sender = i; body = body }) may (invariant_of grew)
invariant_of {size} (saves sent records next i change grew may saved) =
    saves_keep size sent records next i change may saved (invariant_of grew)

module _ {size s : ℕ} {sent : Sent} {records : ℕ → Record} {b : Ballot} {v : Value} (inv : Invariant size sent records)
    (chosen : IsChosenBy size sent b s v) where
  -- what is chosen was proposed
  pub chosen_proposed : IsSaid sent (Accept b s v)
  chosen_proposed =
      let (i, low, high, here, there) = majorities_meet size chosen.0 chosen.0 chosen.1 chosen.1 in
      inv.accepted i b s v (chosen.2 i here)

  -- what is proposed under a greater ballot is the same
  pub later_same : (c : Ballot) (w : Value) → IsSaid sent (Accept c s w) → IsAtMost b c → w ≡ v
  later_same c w said at_most =
      let order : IsBelow b c ⊎ (b ≡ c) = grind (arith, nat_tests) in
      elim order [
        | inl below ↦
            let d = inv.decided c s w said b below in
            let (i, low, high, here, there) = majorities_meet size chosen.0 d.members chosen.1 d.majority in
            sym ((d.past i there).only v (chosen.2 i here))
        | inr e ↦ inv.one_value c s w v said (rw e at chosen_proposed)
      ]
