-- The knowledge of a learner, its answers, and what lasts whatever it hears.
use Rattle.std.specs.Prelude.{◌≡◌, ℕ, ◌+◌, ◌==◌, ◌<◌, nat_lt, ◌&&◌, Bool, IsTrue, List, [], ◌∷◌, Option, Some, None, is_some, is_none, if◌then◌else◌, ◌≤◌}
use Rattle.std.specs.Ordering.{nat_cmp}
use Rattle.std.specs.FinMap.{FinMap, empty, get, insert, remove, keys}
use Rattle.paxos_msg.specs.declared.ballot.Ballot.{Ballot}
use Rattle.paxos_msg.specs.declared.value.Value.{Value}
use Rattle.paxos_msg.specs.Tests.{is_majority}
use Rattle.paxos_learner.specs.declared.heard.Heard.{Heard}
use Rattle.paxos_learner.specs.declared.heard.Heard.TheVariants as heard
use Rattle.paxos_learner.specs.Tallies.{Tally, has_node, tallied}
use Rattle.paxos_learner.specs.declared.learner.TheConstants.{WINDOW}
use Rattle.paxos_msg.specs.Fits.{IsValue}
use Rattle.paxos_msg.specs.declared.limits.TheConstants.{LAST_PLACE}

-- The learned value of each place, and the tallies of other places, in a group of `size` nodes.
-- Source: Simple 2.3.
pub record Learner : Type 0 where
  pub size : ℕ
  pub learned : FinMap nat_cmp Value
  pub tallies : FinMap nat_cmp Tally

-- A learner that has heard nothing.
abbrev pub new_learner : ℕ → Learner
new_learner size = record { size = size; learned = empty; tallies = empty }

-- The least place from `s` on that is not among these, which ascend.
abbrev pub first_missing : ℕ → List ℕ → ℕ
first_missing s [] = s
first_missing s (k ∷ ks) = if k == s then first_missing (s + 1) ks else s

-- The known front: the least place that is not learned.
-- Source: Simple 3, commands are carried out in order.
abbrev pub front_of : FinMap nat_cmp Value → ℕ
front_of learned = first_missing 0 (keys learned)

-- A place that is not learned, while each place below it is.
-- Source: Simple 3, commands are carried out in order.
-- Allows: Learned places above it.
-- Forbids: A front past a hole.
pub record IsFront (learned : FinMap nat_cmp Value) (front : ℕ) : Type 0 where
  pub below : (s : ℕ) → s < front → IsTrue (is_some (get learned s))
  pub here : get learned front ≡ None

-- True if the place is not learned, and less than 1,024 places above the front.
abbrev pub is_open : Learner → ℕ → Bool
is_open l s = is_none (get l.learned s) && nat_lt s (front_of l.learned + WINDOW)

-- The learner after a call, and the call's answer.
pub record Hearing : Type 0 where
  pub learner : Learner
  pub answer : Heard

-- The learner after a message that changes nothing.
abbrev pub passed : Learner → Hearing
passed l = record { learner = l; answer = heard.Passed }

-- The learner after the value is learned; the place needs no tally any more.
abbrev pub learn : Learner → ℕ → Value → Hearing
learn l s v =
    record {
      learner = record l { learned = insert l.learned s v; tallies = remove l.tallies s };
      answer = heard.Learned;
    }

-- The learner after a new tally of the place, or with its value learned if the tally is a majority.
-- Source: Simple 2.3.
abbrev pub counted : Learner → ℕ → Option Tally → Hearing
counted l s None = passed l
counted l s (Some t) =
    if is_majority l.size (has_node t.nodes) then learn l s t.value
    else record { learner = record l { tallies = insert l.tallies s t }; answer = heard.Counted }

-- The learner after node `i` says that it has accepted `v` at `s` under `b`. The place is learned
-- once its tally is a majority.
-- Source: Simple 2.3.
-- Allows: A place above a hole.
-- Forbids: A change of a learned place.
abbrev pub heard_accepted : Learner → ℕ → Ballot → ℕ → Value → Hearing
heard_accepted l i b s v =
    if is_open l s then counted l s (tallied (get l.tallies s) i b v) else passed l

-- The learner after some node says that it has learned `v` at `s`.
-- Source: Simple 2.3.
-- Allows: A place above a hole.
-- Forbids: A change of a learned place.
abbrev pub heard_tell : Learner → ℕ → Value → Hearing
heard_tell l s v = if is_open l s then learn l s v else passed l

-- ---- properties of a learner that last, whatever it hears

-- Each learned value is still learned, at its place.
-- Source: Simple 2.3.
-- Allows: More places.
-- Forbids: Another value at a place.
pub record HasLearnedMore (old new : FinMap nat_cmp Value) : Type 0 where
  pub stays : (s : ℕ) (v : Value) → get old s ≡ Some v → get new s ≡ Some v

-- Learned places that are at most 65,535, and less than 1,024 places above the front.
-- Allows: A place above a hole.
-- Forbids: A place 1,024 above the front.
pub record AreInWindow (learned : FinMap nat_cmp Value) : Type 0 where
  pub place : (s : ℕ) (v : Value) → get learned s ≡ Some v → s ≤ LAST_PLACE
  pub window : (s : ℕ) (v : Value) → get learned s ≡ Some v → s < front_of learned + WINDOW

-- A learner whose learned and tallied values are in their ranges.
-- Allows: A no-op.
-- Forbids: A batch whose first serial is 0.
pub record IsLearnerInRange (l : Learner) : Type 0 where
  pub learned : (s : ℕ) (v : Value) → get l.learned s ≡ Some v → IsValue l.size v
  pub tallied : (s : ℕ) (t : Tally) → get l.tallies s ≡ Some t → IsValue l.size t.value
