-- The messages that the nodes have sent, over any type of values, and votes by place.
use Rattle.std.specs.Prelude.{◌≡◌, ℕ, ◌<◌, ◌≤◌, ◌==◌, List, [], ◌∷◌, map, Option, Contains, find}
use Rattle.paxos_msg.specs.declared.ballot.Ballot.{Ballot}
use Rattle.paxos_msg.specs.declared.value.Vote.{Vote}
use Rattle.paxos_msg.specs.declared.message.Body.{Body}
use Rattle.paxos_msg.specs.declared.message.Body.TheVariants.{Promise}
use Rattle.paxos_msg.specs.declared.message.Msg.{Msg}

-- All messages ever sent, the oldest first.
-- Source: Simple 2.1, messages may be lost, repeated and late.
-- Allows: A message sent twice.
-- Forbids: A message that is forgotten.
abbrev pub Sent : Type 0 → Type 0
Sent V = List (Msg V)

-- Node `i` has sent the body.
abbrev pub IsSent : {V : Type 0} → Sent V → ℕ → Body V → Type 0
IsSent sent i body = Contains sent (record { sender = i; body = body })

-- Some node has sent the body.
abbrev pub IsSaid : {V : Type 0} → Sent V → Body V → Type 0
IsSaid sent body = (i : ℕ) × IsSent sent i body

-- The messages of node `i` with these bodies, in order.
abbrev pub messages_of : {V : Type 0} → ℕ → List (Body V) → Sent V
messages_of i bodies = map (λ body. record { sender = i; body = body }) bodies

-- The vote at place `s`, if there is one.
abbrev pub kept_vote_at : {V : Type 0} → List (Vote V) → ℕ → Option (Vote V)
kept_vote_at votes s = find (λ vote. vote.place == s) votes

-- Votes at places above `s`.
abbrev pub AreAbove : {V : Type 0} → ℕ → List (Vote V) → Type 0
AreAbove s [] = Unit {0}
AreAbove s (vote ∷ votes) = (s < vote.place) × AreAbove s votes

-- Votes in ascending order of place, so that each place has at most one.
-- Allows: A place without a vote.
-- Forbids: Two votes at one place.
abbrev pub IsAscending : {V : Type 0} → List (Vote V) → Type 0
IsAscending [] = Unit {0}
IsAscending (vote ∷ votes) = AreAbove vote.place votes × IsAscending votes

-- A single promise. A Promise of node `i` under ballot `b` reports on place `s`, with this vote
-- there or none. So one Promise makes one single promise for each place from its `first` up to and
-- without its `upto`.
-- Source: Simple 2.2, phase 1(b); section 3, phase 1 for many places at once.
-- Allows: The places of one Promise, each counted for itself.
-- Forbids: A Promise that reports on its `upto`.
pub record IsPromised {V : Type 0} (sent : Sent V) (i : ℕ) (b : Ballot) (s : ℕ)
    (reported : Option (Vote V)) : Type 0 where
  pub first : ℕ
  pub upto : ℕ
  pub votes : List (Vote V)
  pub is_sent : IsSent sent i (Promise b first upto votes)
  pub from_first : first ≤ s
  pub below_upto : s < upto
  pub reports : kept_vote_at votes s ≡ reported
