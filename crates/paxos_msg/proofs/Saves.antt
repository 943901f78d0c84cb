-- A save keeps the invariant.
use Rattle.std.proofs.Common.{ℕ, arith}
use Rattle.std.proofs.lemmas.Bool.Decides.{nat_tests}
use Rattle.paxos_msg.specs.declared.ballot.Ballot.{Ballot}
use Rattle.paxos_msg.specs.Batches.{Change, Record, Sent}
use Rattle.paxos_msg.specs.Records.{MaySave, IsSaved, changed}
use Rattle.paxos_msg.proofs.Invariant.{HasPromised, HasVoted, HasRight, Invariant}
use Rattle.paxos_msg.proofs.VotesByPlace.{vote_after}

-- a vote that was right is right after a change, and the vote there then is under no smaller ballot
votes_kept : (sent : Sent) (old : Record) (change : Change) (s : ℕ) → MaySave sent old change → HasRight sent s old
    → HasRight sent s (changed old change) × ((b : Ballot) → HasVoted b s old → HasVoted b s (changed old change))
votes_kept sent old change s may right = grind (arith, nat_tests, vote_after)

module _ (size : ℕ) (sent : Sent) (records next : ℕ → Record) (i : ℕ) (change : Change)
    (may : MaySave sent (records i) change) (saved : IsSaved records i change next) where
  -- what holds of a record, and of the changed one, holds after the save
  after : (j : ℕ) (Q : Record → Type 0) → (MaySave sent (records j) change → Q (changed (records j) change)) → Q (records j) → Q (next j)
  after j Q new old = grind (arith, nat_tests)

  -- the invariant holds after the save
  pub saves_keep : Invariant size sent records → Invariant size sent next
  saves_keep inv = record {
    accepted = inv.accepted;
    one_value = inv.one_value;
    submitted = inv.submitted;
    kept = λ j b s v h. after j (HasVoted b s)
        (λ m. (votes_kept sent (records j) change s m (inv.right j s)).1 b (inv.kept j b s v h)) (inv.kept j b s v h);
    right = λ j s. after j (HasRight sent s) (λ m. (votes_kept sent (records j) change s m (inv.right j s)).0) (inv.right j s);
    held = λ j b s reported h. (let old = inv.held j b s reported h in after j (HasPromised b) (λ m. grind (arith, nat_tests)) old);
    reports = inv.reports;
    decided = λ c s w said b below. (let d = inv.decided c s w said b below in grind (arith, nat_tests));
  }
