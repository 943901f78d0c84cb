-- Processes that go on: deeds of the processes of some nodes lead from one log to a longer one.
use Rattle.std.specs.Prelude.{◌≡◌, ℕ, Bool, IsTrue, All, List, []}
use Rattle.group_node.specs.Deeds.{Crash, Deed, Press}
use Rattle.group_world.specs.declared.event.Outcome.TheVariants.{Kept}
use Rattle.group_world.specs.Group.{World}
use Rattle.group_world.specs.Member.{Member}
use Rattle.group_world.specs.Processes.{Entry, IsCarried, IsLog, after_log}

-- The deeds by which processes go on.
-- Allows: a start over the record that the node's store has.
-- Forbids: a crash and a typed byte.
abbrev pub IsHelpfulDeed : Deed → Type 0
IsHelpfulDeed (Press byte) = ⊥
IsHelpfulDeed Crash = ⊥
IsHelpfulDeed _ = Unit {0}

-- An entry of the process of one of these nodes, whose save is kept: no crash and no typed byte.
pub record IsOwnEntry (members : ℕ → Bool) (e : Entry) : Type 0 where
  pub of_member : IsTrue (members e.node)
  pub kept : e.save ≡ Kept
  pub helpful : IsHelpfulDeed e.deed

-- Deeds of the processes of these nodes alone lead from the group `w` to one with this property, as
-- a log that goes on where `w` stands.
-- They hear only what is sent in these deeds. So all that is on its way may be lost, and the other
-- processes may be gone.
-- Source: Simple 2.4, progress.
-- Forbids: a deed of another node; a save that fails; a message that was sent before.
pub record ProcessesMayReach (members : ℕ → Bool) (w : World) (P : World → Type 0) : Type 0 where
  pub log : List Entry
  pub now : List Member
  pub goes_on : IsLog w log now
  pub own : All (IsOwnEntry members) log
  pub fresh : IsCarried w.group [] log
  pub holds : P (after_log w log now)
