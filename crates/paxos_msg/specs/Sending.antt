-- The messages that a node may send, over any type of values. A parameter says which value is the
-- no-op, and the keys of each.
use Rattle.std.specs.Prelude.{◌≡◌, ℕ, ◌<◌, ◌≤◌, ◌⊎◌, Bool, IsTrue, List, [], ◌∷◌, ◌++◌, Option, Some, None, IfSome, IsSomeAnd, MatchOption, Contains}
use Rattle.paxos_msg.specs.declared.ballot.Ballot.{Ballot}
use Rattle.paxos_msg.specs.declared.value.Vote.{Vote}
use Rattle.paxos_msg.specs.declared.record.Record.{Record}
use Rattle.paxos_msg.specs.declared.message.Body.{Body}
use Rattle.paxos_msg.specs.declared.message.Body.TheVariants.{Prepare, Promise, Accept, Accepted, Refused, Submit, Ask, Tell}
use Rattle.paxos_msg.specs.Ballots.{IsBelow, IsAtMost, IsMajority}
use Rattle.paxos_msg.specs.Keys.{AreOwnKeys, Key, Values}
use Rattle.paxos_msg.specs.Messages.{Sent, IsSent, IsSaid, IsPromised, kept_vote_at}

-- A vote that a member reported, with no reported vote under a greater ballot.
pub record IsGreatest {V : Type 0} (members : ℕ → Bool) (reported : ℕ → Option (Vote V))
    (vote : Vote V) : Type 0 where
  pub reporter : ℕ
  pub is_member : IsTrue (members reporter)
  pub reports : reported reporter ≡ Some vote
  pub greatest : (i : ℕ) → IsTrue (members i)
      → IfSome (reported i) (λ other. IsAtMost other.ballot vote.ballot)

-- The vote of the greatest ballot among those that the members reported, or none if they reported
-- none.
-- Source: Simple 2.2, P2c.
abbrev pub IsBest : {V : Type 0} → (ℕ → Bool) → (ℕ → Option (Vote V)) → Option (Vote V) → Type 0
IsBest members reported None = (i : ℕ) → IsTrue (members i) → reported i ≡ None
IsBest members reported (Some vote) = IsGreatest members reported vote

-- A no-op, or a value that was submitted.
abbrev pub IsFree : {V : Type 0} → Values V → Sent V → V → Type 0
IsFree values sent v = (v ≡ values.noop) ⊎ IsSaid sent (Submit v)

-- Value `v` is safe to propose at place `s` under ballot `b`. A majority has single promises for
-- `b` and `s`, one each. If they report votes, `v` is the value of the vote with the greatest
-- ballot. If they report none, `v` is a no-op or was submitted.
-- Source: Simple 2.2, phase 2(a), P2c.
-- Allows: A majority that is not the first that answered.
-- Forbids: A value of the proposer's own where a vote was reported.
pub record IsSafe {V : Type 0} (values : Values V) (size : ℕ) (sent : Sent V) (b : Ballot) (s : ℕ)
    (v : V) : Type 0 where
  pub members : ℕ → Bool
  pub reported : ℕ → Option (Vote V)
  pub best : Option (Vote V)
  pub majority : IsMajority size members
  pub promised : (i : ℕ) → IsTrue (members i) → IsPromised sent i b s (reported i)
  pub is_best : IsBest members reported best
  pub value : MatchOption best (IsFree values sent v) (λ vote. v ≡ vote.value)

-- Nothing was proposed under ballot `b` at place `s`.
abbrev pub IsUnproposed : {V : Type 0} → Sent V → Ballot → ℕ → Type 0
IsUnproposed {V} sent b s = (v : V) → ¬ IsSaid sent (Accept b s v)

-- The votes report record `r` over the places from `first` up to and without `upto`. Each is one of
-- its votes and lies there. At each place there they have the vote of the record, or none if it has
-- none.
-- Source: Simple 2.2, phase 1(b).
-- Allows: A report without votes over places that have none.
-- Forbids: A report that leaves out a vote of the range.
pub record IsReport {V : Type 0} (r : Record V) (first upto : ℕ)
    (votes : List (Vote V)) : Type 0 where
  pub own : (vote : Vote V) → Contains votes vote → Contains r.votes vote
  pub within : (vote : Vote V) → Contains votes vote → (first ≤ vote.place) × (vote.place < upto)
  pub whole : (s : ℕ) → first ≤ s → s < upto → kept_vote_at votes s ≡ kept_vote_at r.votes s

-- The value has keys of node `i` alone, each of them typed.
-- Allows: A key that was submitted before.
-- Forbids: A no-op, or a key of another node.
pub record IsTyped {V : Type 0} (values : Values V) (typed : List Key) (i : ℕ)
    (v : V) : Type 0 where
  pub own : AreOwnKeys values i v
  pub known : (key : Key) → Contains (values.keys v) key → Contains typed key

-- The bodies that node `i` may send after the messages in `sent`: one case for each kind. The keys
-- in `typed` were typed, the values in `learned` are learned, and `r` is its stored record.
-- Source: Simple 2.2, 2.3 and 3.
-- Allows: An Accept sent again by its own sender.
-- Forbids: A second value under one ballot at one place.
abbrev pub MaySend : {V : Type 0} → Values V → ℕ → List Key → (ℕ → Option V) → Sent V → ℕ → Record V
    → Body V → Type 0
MaySend values size typed learned sent i r (Prepare b from) =
    (b.node ≡ i) × IsSomeAnd r.promised (λ p. IsAtMost b p)
MaySend values size typed learned sent i r (Promise b first upto votes) =
    (r.promised ≡ Some b) × IsReport r first upto votes
MaySend values size typed learned sent i r (Accept b s v) =
    (b.node ≡ i) × (IsSent sent i (Accept b s v)
    ⊎ (IsUnproposed sent b s × IsSafe values size sent b s v))
MaySend values size typed learned sent i r (Accepted b s v) =
    IsSaid sent (Accept b s v)
    × (kept_vote_at r.votes s ≡ Some (record { place = s; ballot = b; value = v }))
    × (r.promised ≡ Some b)
MaySend values size typed learned sent i r (Refused b promised) =
    (r.promised ≡ Some promised) × IsBelow b promised
MaySend values size typed learned sent i r (Submit v) = IsTyped values typed i v
MaySend values size typed learned sent i r (Ask from) = Unit {0}
MaySend values size typed learned sent i r (Tell s v) = learned s ≡ Some v

-- The bodies that node `i` may send in one call, each after the earlier ones.
abbrev pub MaySendAll : {V : Type 0} → Values V → ℕ → List Key → (ℕ → Option V) → Sent V → ℕ
    → Record V → List (Body V) → Type 0
MaySendAll values size typed learned sent i r [] = Unit {0}
MaySendAll values size typed learned sent i r (body ∷ more) =
    MaySend values size typed learned sent i r body
    × MaySendAll values size typed learned
    (sent ++ record { sender = i; body = body } ∷ []) i r more

-- No typed key and no learned value is lost.
pub record KnowsMore {V : Type 0} (typed newer : List Key)
    (learned now : ℕ → Option V) : Type 0 where
  pub keys : (key : Key) → Contains typed key → Contains newer key
  pub values : (s : ℕ) (v : V) → learned s ≡ Some v → now s ≡ Some v

-- A body that is no Accept, or one that node `i` has sent before.
-- Allows: An Accept sent again.
-- Forbids: A first Accept.
abbrev pub IsNoNewProposal : {V : Type 0} → Sent V → ℕ → Body V → Type 0
IsNoNewProposal sent i (Accept b s v) = IsSent sent i (Accept b s v)
IsNoNewProposal sent i _ = Unit {0}
