-- A record after a save.
use Rattle.std.proofs.Common.{◌≡◌, ℕ, Option, Some, None, IfSome, IsSomeAnd, arith}
use Rattle.std.proofs.lemmas.Bool.Decides.{nat_tests}
use Rattle.paxos_msg.specs.declared.ballot.Ballot.{Ballot}
use Rattle.paxos_msg.specs.Ballots.{IsAtMost}
use Rattle.paxos_msg.specs.Batches.{Change, Record, Sent}
use Rattle.paxos_msg.specs.Records.{changed, MaySave}
use Rattle.paxos_acceptor.specs.Answers.{after}
use Rattle.paxos_acceptor.specs.Records.{HasBackedVotes as IsVotesBacked}
use Rattle.group_protocol.specs.Backs.{HasPromised, IsRecordBacked}

-- The laws of the crates below: a save never lowers a promise, and keeps votes backed.
pub record RecordLaws : Type 0 where
  pub raises : (sent : Sent) (r : Record) (change : Change) (p : Ballot) → MaySave sent r change → r.promised ≡ Some p
      → IsSomeAnd (changed r change).promised (λ q. IsAtMost p q)
  pub saved : (sent : Sent) (r : Record) (change : Change) → IsVotesBacked sent r → MaySave sent r change
      → IsVotesBacked sent (changed r change)

module _ (laws : RecordLaws) (sent : Sent) (r : Record) where
  -- what was promised is so after a save that may be made, if there is one
  pub promised_still : (saves : Option Change) (b : Ballot) → IfSome saves (MaySave sent r) → HasPromised r b
      → HasPromised (after r saves) b
  promised_still saves b may h = grind (arith, nat_tests)

-- a stored record stays backed after it
pub record_saved : RecordLaws → (sent : Sent) (me : ℕ) (r : Record) (saves : Option Change) → IsRecordBacked sent me r
    → IfSome saves (MaySave sent r) → IsRecordBacked sent me (after r saves)
record_saved laws sent me r None h may = h
record_saved laws sent me r (Some change) h may = record {
  votes = laws.saved sent r change h.votes may;
  asked = λ b from mine said. promised_still laws sent r (Some change) b may (h.asked b from mine said);
  own = λ b s v mine said. promised_still laws sent r (Some change) b may (h.own b s v mine said);
}
