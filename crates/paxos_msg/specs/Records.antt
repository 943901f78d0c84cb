-- The record of an acceptor: its changes, and the record that a restart finds.
use Rattle.std.specs.Prelude.{◌≡◌, ◌≢◌, ℕ, ◌+◌, ◌==◌, ◌⊎◌, nat_lt, if◌then◌else◌, List, [], ◌∷◌, Some, None, IfSome, Contains}
use Rattle.paxos_msg.specs.declared.value.Vote.{Vote}
use Rattle.paxos_msg.specs.declared.record.Record.{Record}
use Rattle.paxos_msg.specs.declared.record.Change.{Change}
use Rattle.paxos_msg.specs.declared.record.Change.TheVariants.{Start, Promise, Ballotted}
use Rattle.paxos_msg.specs.declared.message.Body.TheVariants.{Accept}
use Rattle.paxos_msg.specs.Ballots.{IsBelow, IsAtMost}
use Rattle.paxos_msg.specs.Messages.{Sent, IsSaid}

-- The record before the first start.
-- Source: Simple 2.5.
abbrev pub empty_record : {V : Type 0} → Record V
empty_record = record { starts = 0; promised = None; votes = [] }

-- The votes, in ascending order of place, with this one in the place of any other at its place.
-- Allows: A place without a vote.
-- Forbids: Two votes at one place.
abbrev pub with_vote : {V : Type 0} → List (Vote V) → Vote V → List (Vote V)
with_vote [] vote = vote ∷ []
with_vote (x ∷ xs) vote =
    if nat_lt vote.place x.place then vote ∷ (x ∷ xs)
    else (if x.place == vote.place then vote ∷ xs else x ∷ with_vote xs vote)

-- The record after a change.
-- Source: Simple 2.2 and 2.5, stable storage.
-- Allows: A vote in the place of another at its place.
-- Forbids: A change of two places at once.
abbrev pub changed : {V : Type 0} → Record V → Change V → Record V
changed r Start = record r { starts = r.starts + 1 }
changed r (Promise b) = record r { promised = Some b }
changed r (Ballotted s b v) =
    record r {
      promised = Some b;
      votes = with_vote r.votes (record { place = s; ballot = b; value = v });
    }

-- The changes that a node with record `r` may save. A start is always allowed. A promise needs a
-- ballot greater than the promised one. A vote needs a proposal, under a ballot that is not below
-- the promised one.
-- Source: Simple 2.2, P1a.
-- Allows: A vote under the promised ballot itself, or under a greater one.
-- Forbids: A vote for a value that no Accept proposed.
abbrev pub MaySave : {V : Type 0} → Sent V → Record V → Change V → Type 0
MaySave sent r Start = Unit {0}
MaySave sent r (Promise b) = IfSome r.promised (λ p. IsBelow p b)
MaySave sent r (Ballotted s b v) =
    IsSaid sent (Accept b s v) × IfSome r.promised (λ p. IsAtMost p b)

-- The records of the nodes after node `i` has saved the change; only its own record changes.
-- Source: Simple 2.5.
-- Forbids: A change of another node's record.
pub record IsSaved {V : Type 0} (records : ℕ → Record V) (i : ℕ) (change : Change V)
    (next : ℕ → Record V) : Type 0 where
  pub own : next i ≡ changed (records i) change
  pub others : (j : ℕ) → j ≢ i → next j ≡ records j

-- The records that a restart may find: the one of the last save that succeeded, or of one later
-- save that failed. `saved` is the first, and `failed` has the changes of it whose saves failed
-- since.
-- Source: Simple 2.5.
-- Allows: A failed save that is found after all.
-- Forbids: Two failed saves that are both found.
abbrev pub Stored : {V : Type 0} → Record V → List (Change V) → Record V → Type 0
Stored {V} saved failed found =
    (found ≡ saved) ⊎ ((change : Change V) × Contains failed change
    × (found ≡ changed saved change))
