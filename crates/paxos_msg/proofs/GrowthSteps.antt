-- The steps of a growth that is written out.
use Rattle.std.proofs.Common.{◌≡◌, ℕ, suc, ◌==◌, Bool, false, IsTrue, List, [], ◌∷◌, ◌++◌, Option, None, IfSome, if◌then◌else◌, refl, arith}
use Rattle.std.proofs.lemmas.Bool.{eq-eqb}
use Rattle.std.proofs.lemmas.List.Folds.{list_any_at}
use Rattle.std.specs.List.{list_any}
use Rattle.std.proofs.lemmas.Bool.Decides.{nat_tests}
use Rattle.paxos_msg.specs.declared.ballot.Ballot.{Ballot}
use Rattle.paxos_msg.specs.declared.value.Value.{Value}
use Rattle.paxos_msg.specs.declared.value.Value.TheVariants as value
use Rattle.paxos_msg.specs.Batches.{Body, Change, Grew, IsFree, IsSafe, IsTyped, MaySend, Record, Sent, Vote}
use Rattle.paxos_msg.specs.declared.record.Change.TheVariants.{Ballotted, Promise as ToPromise}
use Rattle.paxos_msg.specs.declared.message.Body.TheVariants.{Promise, Accept, Accepted}
use Rattle.paxos_msg.specs.Ballots.{IsAtMost, IsMajority}
use Rattle.paxos_msg.specs.Chosen.{is_listed}
use Rattle.paxos_msg.specs.Growth.{sends, saves}
use Rattle.paxos_msg.specs.Keys.{Key}
use Rattle.paxos_msg.specs.Messages.{IsSent, IsSaid, IsPromised, kept_vote_at}
use Rattle.paxos_msg.specs.Records.{changed, IsSaved, MaySave}
use Rattle.paxos_msg.specs.Sending.{IsUnproposed, IsReport}
use Rattle.paxos_msg.proofs.VotesByPlace.{vote_at-with_vote_same}

-- ---- nodes

-- the fact holds of each of the nodes
abbrev pub AtEach : (ℕ → Type 0) → List ℕ → Type 0
AtEach P [] = Unit {0}
AtEach P (node ∷ nodes) = P node × AtEach P nodes

pub at_listed : (P : ℕ → Type 0) (nodes : List ℕ) → AtEach P nodes → (i : ℕ) → IsTrue (is_listed nodes i) → P i
at_listed P [] each i h = absurd cc
at_listed P (node ∷ nodes) each i h = grind (arith, nat_tests, at_listed P nodes each.1 i)

-- ---- one key, which was typed at the node

abbrev pub key_at : ℕ → Value
key_at node = value.Keys node 1 1 (65 ∷ [])

abbrev pub typed_at : ℕ → List Key
typed_at node = record { node = node; start = 1; serial = 1; byte = 65 } ∷ []

pub is_typed : (node : ℕ) → IsTyped (typed_at node) node (key_at node)
is_typed node = grind (arith, nat_tests)

pub at_most_refl : (a : Ballot) → IsAtMost a a
at_most_refl a = grind arith

-- no node has learned anything
abbrev learned : ℕ → Option Value
learned s = None

-- ---- what was proposed

-- whether the body proposes under a ballot of that round
abbrev proposes : ℕ → Body → Bool
proposes round (Accept b s v) = b.round == round
proposes round other = false

pub none_proposed : (sent : Sent) (b : Ballot) (s : ℕ) → list_any (λ m. proposes b.round m.body) sent ≡ false
    → IsUnproposed sent b s
none_proposed sent b s none v (i, (k, below, at)) = grind (arith, nat_tests, list_any_at, eq-eqb)

-- a Promise for one place reports on that place
pub promised : {sent : Sent} {i s : ℕ} {b : Ballot} (votes : List Vote) → IsSent sent i (Promise b s (suc s) votes)
    → IsPromised sent i b s (kept_vote_at votes s)
promised votes is_sent = grind (arith, nat_tests)

-- a submitted value is safe where each node of a majority promised without a vote
pub safe_at_first : {size : ℕ} {sent : Sent} {b : Ballot} {s : ℕ} {v : Value} (nodes : List ℕ) → IsMajority size (is_listed nodes)
    → AtEach (λ i. IsPromised sent i b s None) nodes → IsFree sent v → IsSafe size sent b s v
safe_at_first nodes majority each free = record {
  members = is_listed nodes;
  reported = λ i. None;
  best = None;
  majority = majority;
  promised = at_listed _ nodes each;
  is_best = λ i member. refl;
  value = free;
}

-- a record without votes reports none
pub silent : (r : Record) (first upto : ℕ) → r.votes ≡ [] → IsReport r first upto []
silent r first upto e = grind (arith, nat_tests)

-- ---- one node more saves, and sends what it saved

-- messages and records that grew
pub record Grown (size : ℕ) : Type 0 where
  pub sent : Sent
  pub records : ℕ → Record
  pub grew : Grew size sent records

-- the records after node i has saved the change
abbrev with_change : (ℕ → Record) → ℕ → Change → (ℕ → Record)
with_change records i change j = if j == i then changed (records i) change else records j

pub with_change-saved : (records : ℕ → Record) (i : ℕ) (change : Change) → IsSaved records i change (with_change records i change)
with_change-saved records i change = grind (arith, nat_tests)

module _ {size : ℕ} (g : Grown size) (i : ℕ) where
  -- node i sends the body
  abbrev pub and_sent : (typed : List Key) (body : Body) → MaySend size typed learned g.sent i (g.records i) body → Grown size
  and_sent typed body may = record {
    sent = g.sent ++ record { sender = i; body = body } ∷ [];
    records = g.records;
    grew = sends g.sent g.records typed learned i body g.grew may;
  }

  -- node i saves the change
  abbrev pub and_saved : (change : Change) → MaySave g.sent (g.records i) change → Grown size
  and_saved change may = record {
    sent = g.sent;
    records = with_change g.records i change;
    grew = saves g.sent g.records (with_change g.records i change) i change g.grew may (with_change-saved g.records i change);
  }

module _ {size : ℕ} (g : Grown size) (i : ℕ) where
  -- node i saves the change, and sends what it may send with the changed record
  abbrev then_sent : (change : Change) → MaySave g.sent (g.records i) change → (body : Body)
      → MaySend size [] learned g.sent i (changed (g.records i) change) body → Grown size
  then_sent change may body may_send =
      and_sent (and_saved g i change may) i [] body (rw (with_change-saved g.records i change).own may_send)

  -- a node without votes promises the ballot, for one place
  abbrev pub promises : (b : Ballot) (s : ℕ) → MaySave g.sent (g.records i) (ToPromise b) → (g.records i).votes ≡ [] → Grown size
  promises b s may none = then_sent (ToPromise b) may (Promise b s (suc s) [])
      (refl, silent (changed (g.records i) (ToPromise b)) s (suc s) none)

  -- a node accepts what was proposed
  abbrev pub accepts : (b : Ballot) (s : ℕ) (v : Value) → IsSaid g.sent (Accept b s v) → IfSome (g.records i).promised (λ p. IsAtMost p b)
      → Grown size
  accepts b s v said at_most = then_sent (Ballotted s b v) (said, at_most) (Accepted b s v)
      (said, vote_at-with_vote_same (g.records i).votes (record { place = s; ballot = b; value = v }), refl)
