-- Runs that lack one premise of fair runs, and in which a key waits for ever.
use Rattle.std.specs.Prelude.{◌≡◌, ◌≢◌, ℕ, suc, ◌+◌, ◌<◌, Bool, IsTrue, List, [], ◌∷◌, Contains, slice_get, Some, IfSome}
use Rattle.pcode_file.specs.Parts.{Parts}
use Rattle.paxos_msg.specs.declared.limits.TheConstants.{PLACES}
use Rattle.paxos_msg.specs.declared.message.Body.TheVariants.{Accept, Prepare, Submit}
use Rattle.paxos_msg.specs.declared.message.Group.{Group}
use Rattle.paxos_msg.specs.declared.ballot.Ballot.{Ballot}
use Rattle.paxos_msg.specs.declared.value.Value.{Value}
use Rattle.paxos_msg.specs.Ballots.{IsAtMost, IsBelow, IsMajority}
use Rattle.paxos_msg.specs.Batches.{Msg}
use Rattle.paxos_msg.specs.Fits.{IsNode}
use Rattle.paxos_msg.specs.Keys.{Key}
use Rattle.paxos_msg.specs.Messages.{IsSaid}
use Rattle.group_protocol.specs.ProposerResponses.{next_ballot}
use Rattle.group_node.specs.NodeCalls.{Running}
use Rattle.group_world.specs.declared.event.Act.{Act}
use Rattle.group_world.specs.declared.event.Act.TheVariants.{Campaign, Crash, Deliver, Tick}
use Rattle.group_world.specs.declared.event.Done.TheVariants.{Applied}
use Rattle.group_world.specs.declared.event.Outcome.TheVariants.{Kept}
use Rattle.group_world.specs.declared.event.Event.{Event}
use Rattle.group_world.specs.Event.{LeadsBy, kept_event, node_of}
use Rattle.group_world.specs.Group.{HasUp, IsUp, member_at, new_world, World, world_state}
use Rattle.group_world.specs.Member.{Member}
use Rattle.group_progress.specs.GoingOn.{HasRead, keys_waiting}
use Rattle.group_progress.specs.Fair.{Endless, IsFair, IsLed, Later, WasSentTo}

-- Each node of the majority hears each message that one of them sends to it, again and again.
-- Allows: a run in which nobody ticks.
pub record HearsAll (members : ℕ → Bool) (w : World) (run : Endless w) : Type 0 where
  pub hears : (n k i : ℕ) (m : Msg) → IsNode w.group.size i → IsTrue (members i)
      → WasSentTo members run n k i m → Later n (λ t. (run.event t).act ≡ Deliver k i)

-- Each node of the majority ticks again and again, and hears each message that one of them sends to
-- it again and again, but for Submits.
-- Allows: a run in which no Submit is ever heard.
pub record HearsAllButSubmits (members : ℕ → Bool) (w : World) (run : Endless w) : Type 0 where
  pub ticks : (n i : ℕ) → IsNode w.group.size i → IsTrue (members i)
      → Later n (λ t. (run.event t).act ≡ Tick i)
  pub hears : (n k i : ℕ) (m : Msg) → IsNode w.group.size i → IsTrue (members i)
      → WasSentTo members run n k i m → ((v : Value) → m.body ≢ Submit v)
      → Later n (λ t. (run.event t).act ≡ Deliver k i)

-- Acts of a node of the majority while one node leads, where any message may be heard.
-- Allows: any message that was ever sent.
-- Forbids: a crash; a campaign.
abbrev pub IsOpenAct : Act → Type 0
IsOpenAct (Campaign i) = ⊥
IsOpenAct (Crash i) = ⊥
IsOpenAct _ = Unit {0}

-- At moment 1 the leading node hears a Prepare above the ballot, which was sent before the run.
pub record HearsOldPrepare (leader : ℕ) (b : Ballot) (w : World) (run : Endless w) : Type 0 where
  pub number : ℕ
  pub message : Msg
  pub ballot : Ballot
  pub first : ℕ
  pub there : slice_get (world_state w).sent number ≡ Some message
  pub body : message.body ≡ Prepare ballot first
  pub above : IsBelow b ballot
  pub heard : run.event 1 ≡ kept_event (Deliver number leader)

-- A run that is led as `IsLed` says, but for what nodes of the majority hear: at moment 1 the
-- leading node hears an old Prepare above its ballot, and any other message may be heard. From
-- moment 1 on nodes of the majority neither crash nor campaign, and their saves are kept.
-- Allows: another message that outranks the ballot, old or new.
pub record IsLedOpenly (members : ℕ → Bool) (leader : ℕ) (b : Ballot) (w : World)
    (run : Endless w) : Type 0 where
  pub node : IsNode w.group.size leader
  pub own : IsTrue (members leader)
  pub campaigns : run.event 0 ≡ kept_event (Campaign leader)
  pub happens : run.done 0 ≡ Applied
  pub up : (i : ℕ) → IsNode w.group.size i → IsTrue (members i) → HasUp w i
  pub ballot : (m : Member) (q : Running) → IsUp w leader m q → next_ballot q.known ≡ b
  pub above : (i : ℕ) (m : Member) → IsTrue (members i) → member_at w.members i ≡ Some m
      → IfSome m.kept.promised (λ p. IsAtMost p b)
  pub kept : (n : ℕ) → IsTrue (members (node_of (run.event (suc n)).act))
      → (run.event (suc n)).save ≡ Kept
  pub old : HearsOldPrepare leader b w run
  pub peace : (n : ℕ) → IsTrue (members (node_of (run.event (suc n)).act))
      → IsOpenAct (run.event (suc n)).act
  pub room : (n s : ℕ) (c : Ballot) (v : Value)
      → IsSaid (world_state (run.world n)).sent (Accept c s v) → s + 1 < PLACES

-- The claim that a run is led, with its world given.
abbrev pub IsLedCalmly : (ℕ → Bool) → ℕ → Ballot → (w : World) → Endless w → Type 0
IsLedCalmly members leader b w run = IsLed members leader b run

-- The run is fair, and each node of the majority hears each message that one of them sends to it
-- not once alone, but again and again.
pub record HearsAndTicks (members : ℕ → Bool) (w : World) (run : Endless w) : Type 0 where
  pub fair : IsFair members run
  pub hears : HearsAll members w run

-- A run from a world that is reached, of which `Led` and `Hears` hold. A key waits at a node of the
-- majority before it, and no node of the majority ever reads that key.
-- Forbids: a key that some node of the majority reads, even late.
pub record HasStuckRun (Led : (ℕ → Bool) → ℕ → Ballot → (w : World) → Endless w → Type 0)
    (Hears : (ℕ → Bool) → (w : World) → Endless w → Type 0) (p : Parts)
    (group : Group) : Type 0 where
  pub events : List Event
  pub world : World
  pub members : ℕ → Bool
  pub leader : ℕ
  pub ballot : Ballot
  pub run : Endless world
  pub leads : LeadsBy (new_world p group) events world
  pub majority : IsMajority world.group.size members
  pub led : Led members leader ballot world run
  pub heard : Hears members world run
  pub key : Key
  pub waits : Contains (keys_waiting members world) key
  pub unread : (t i : ℕ) → IsTrue (members i) → ¬ HasRead (key ∷ []) (run.world t) i
