-- Learners that the messages back.
use Rattle.std.specs.Prelude.{◌≡◌, ℕ, ◌⊎◌, IsTrue, Some}
use Rattle.std.specs.FinMap.{get}
use Rattle.paxos_msg.specs.declared.value.Value.{Value}
use Rattle.paxos_msg.specs.Batches.{Body, Sent}
use Rattle.paxos_msg.specs.declared.message.Body.TheVariants.{Accepted, Tell}
use Rattle.paxos_msg.specs.Messages.{IsSent, IsSaid}
use Rattle.paxos_msg.specs.Chosen.{IsChosen}
use Rattle.paxos_learner.specs.Tallies.{Tally, has_node}
use Rattle.paxos_learner.specs.Learner.{Learner}

-- Each node of the tally has sent that it accepted the value at place `s` under the ballot.
-- Source: Simple 2.3.
abbrev pub IsTallied : Sent → ℕ → Tally → Type 0
IsTallied sent s t =
    (i : ℕ) → IsTrue (has_node t.nodes i) → IsSent sent i (Accepted t.ballot s t.value)

-- Some node has sent a Tell of `v` at place `s`, or a majority has accepted it there under one
-- ballot.
-- Source: Simple 2.3.
-- Forbids: A value of which no Tell was sent, and which only one of three nodes has accepted.
abbrev pub MayLearn : ℕ → Sent → ℕ → Value → Type 0
MayLearn size sent s v = IsSaid sent (Tell s v) ⊎ IsChosen size sent s v

-- The messages back each tally and each learned value.
-- Source: Simple 2.3.
-- Allows: A learner that has heard nothing.
-- Forbids: A value of which no Tell was sent, and which only one of three nodes has accepted.
pub record IsLearnerBacked (sent : Sent) (l : Learner) : Type 0 where
  pub tallied : (s : ℕ) (t : Tally) → get l.tallies s ≡ Some t → IsTallied sent s t
  pub learned : (s : ℕ) (v : Value) → get l.learned s ≡ Some v → MayLearn l.size sent s v

-- Each message that was sent stays sent.
-- Allows: More messages, in any order.
-- Forbids: A message taken back.
pub record Stays (sent next : Sent) : Type 0 where
  pub stays : (i : ℕ) (body : Body) → IsSent sent i body → IsSent next i body
