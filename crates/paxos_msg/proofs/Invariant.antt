-- What holds of all that was sent and of the records, as they grow.
use Rattle.std.proofs.Common.{◌≡◌, ℕ, Bool, IsTrue, Option, IfSome, IsSomeAnd}
use Rattle.paxos_msg.specs.declared.ballot.Ballot.{Ballot}
use Rattle.paxos_msg.specs.declared.value.Value.{Value}
use Rattle.paxos_msg.specs.Batches.{IsFree, Record, Sent, Vote}
use Rattle.paxos_msg.specs.Ballots.{IsBelow, IsAtMost, IsMajority}
use Rattle.paxos_msg.specs.declared.message.Body.TheVariants.{Accept, Accepted}
use Rattle.paxos_msg.specs.Messages.{IsSent, IsSaid, IsPromised, kept_vote_at}

-- the record has promised b or a greater ballot
abbrev pub HasPromised : Ballot → Record → Type 0
HasPromised b r = IsSomeAnd r.promised (λ p. IsAtMost b p)

-- the vote at s is under b or a greater ballot
abbrev pub HasVoted : Ballot → ℕ → Record → Type 0
HasVoted b s r = IsSomeAnd (kept_vote_at r.votes s) (λ vote. IsAtMost b vote.ballot)

-- a vote at s was proposed, under no greater ballot than the promised one
pub record IsRight (sent : Sent) (r : Record) (s : ℕ) (vote : Vote) : Type 0 where
  pub proposed : IsSaid sent (Accept vote.ballot s vote.value)
  pub in_promise : HasPromised vote.ballot r

-- the vote at s is right, if there is one
abbrev pub HasRight : Sent → ℕ → Record → Type 0
HasRight sent s r = IfSome (kept_vote_at r.votes s) (IsRight sent r s)

-- what node i accepted at s below b is under no greater ballot than the reported vote's, which was
-- proposed
pub record IsTrueReport (sent : Sent) (i : ℕ) (b : Ballot) (s : ℕ) (reported : Option Vote) : Type 0 where
  pub latest : (c : Ballot) (v : Value) → IsSent sent i (Accepted c s v) → IsBelow c b → IsSomeAnd reported (λ vote. IsAtMost c vote.ballot)
  pub proposed : IfSome reported (λ vote. IsSaid sent (Accept vote.ballot s vote.value))

-- node i has passed ballot b, and under b it accepted nothing at s but w
pub record IsPast (sent : Sent) (records : ℕ → Record) (b : Ballot) (s : ℕ) (w : Value) (i : ℕ) : Type 0 where
  pub passed : IsSomeAnd (records i).promised (λ p. IsBelow b p)
  pub only : (v : Value) → IsSent sent i (Accepted b s v) → v ≡ w

-- a majority has passed b, and so nothing but w is ever chosen by b at s
pub record IsDecided (size : ℕ) (sent : Sent) (records : ℕ → Record) (b : Ballot) (s : ℕ) (w : Value) : Type 0 where
  pub members : ℕ → Bool
  pub majority : IsMajority size members
  pub past : (i : ℕ) → IsTrue (members i) → IsPast sent records b s w i

pub record Invariant (size : ℕ) (sent : Sent) (records : ℕ → Record) : Type 0 where
  pub accepted : (i : ℕ) (b : Ballot) (s : ℕ) (v : Value) → IsSent sent i (Accepted b s v) → IsSaid sent (Accept b s v)
  pub one_value : (b : Ballot) (s : ℕ) (v w : Value) → IsSaid sent (Accept b s v) → IsSaid sent (Accept b s w) → v ≡ w
  pub submitted : (b : Ballot) (s : ℕ) (v : Value) → IsSaid sent (Accept b s v) → IsFree sent v
  pub kept : (i : ℕ) (b : Ballot) (s : ℕ) (v : Value) → IsSent sent i (Accepted b s v) → HasVoted b s (records i)
  pub right : (i s : ℕ) → HasRight sent s (records i)
  pub held : (i : ℕ) (b : Ballot) (s : ℕ) (reported : Option Vote) → IsPromised sent i b s reported → HasPromised b (records i)
  pub reports : (i : ℕ) (b : Ballot) (s : ℕ) (reported : Option Vote) → IsPromised sent i b s reported → IsTrueReport sent i b s reported
  pub decided : (c : Ballot) (s : ℕ) (w : Value) → IsSaid sent (Accept c s w) → (b : Ballot) → IsBelow b c
      → IsDecided size sent records b s w
