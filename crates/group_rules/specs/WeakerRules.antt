-- The rules without one of their clauses. Each of these clauses is needed: without it deeds lead to
-- groups that break a claim (`specs/WithoutRules.antt`).
use Rattle.std.specs.Prelude.{◌≡◌, ◌+◌, ◌≤◌, ℕ, ◌⊎◌, Contains, List, [], ◌∷◌, ◌++◌, None, Option, Some, IfSome, IsSome, length}
use Rattle.std.specs.FinMap.{get}
use Rattle.pcode_machine.specs.Configuration.{Configuration}
use Rattle.paxos_msg.specs.declared.record.Change.TheVariants as change
use Rattle.paxos_msg.specs.declared.value.Value.{Value}
use Rattle.paxos_msg.specs.Batches.{Body, Change, MaySendAll, Msg, Record}
use Rattle.paxos_msg.specs.Keys.{Key}
use Rattle.paxos_msg.specs.Records.{changed, MaySave}
use Rattle.paxos_acceptor.specs.Answers.{after}
use Rattle.paxos_acceptor.specs.Stores.{IsOneOf}
use Rattle.paxos_learner.specs.Backed.{MayLearn}
use Rattle.paxos_learner.specs.Input.{learned_input}
use Rattle.paxos_learner.specs.Learner.{HasLearnedMore}
use Rattle.group_node.specs.Deeds.{Deed, Campaign, Hear, Press, Run, Start, Tick}
use Rattle.group_rules.specs.Rules.{AreParted, ChangesOnly, MakesCall, MakesSteps, MayCause, SubmitsWaiting, Up, WorldState, WorldStep, fresh}

-- A clause of the rules that a claim needs.
pub data Clause : Type 0 where
  Sends : Clause
  Saves : Clause
  Cause : Clause
  Gains : Clause
  Configuration_stays : Clause
  Released_stays : Clause
  Waiting : Clause
  Submits : Clause
  Next : Clause
  Serial : Clause
  Start_of_key : Clause
  Start_counts : Clause
  Fall_keeps : Clause
  Moves : Clause

-- What a clause asks, unless it is the one that is left out.
abbrev pub Unless : Clause → Clause → Type 0 → Type 0
Unless left clause P = (left ≡ clause) ⊎ P

-- A call as in `MakesCall`, without a clause.
pub record CallsWithout (left : Clause) (w v : WorldState) (i : ℕ) (c : Option Change)
    (keys : List Key) : Type 0 where
  pub bodies : List Body
  pub was : Up
  pub now : Up
  pub from : (w.seats i).up ≡ Some was
  pub leaves : v.seats i
      ≡ record { kept = after (w.seats i).kept c; console = (w.seats i).console; up = Some now }
  pub rest : ChangesOnly w v i bodies keys
  pub saves : Unless left Saves (IfSome c (MaySave w.sent (w.seats i).kept))
  pub sends : Unless left Sends
      (MaySendAll w.size v.typed (get now.learned) w.sent i (after (w.seats i).kept c) bodies)
  pub keeps : HasLearnedMore was.learned now.learned
  pub gains : Unless left Gains ((s : ℕ) (x : Value) → get now.learned s ≡ Some x
      → (get was.learned s ≡ Some x) ⊎ MayLearn w.size w.sent s x)
  pub configuration : Unless left Configuration_stays (now.configuration ≡ was.configuration)
  pub released : Unless left Released_stays (now.released ≡ was.released)
  pub waiting : Unless left Waiting (AreParted now.learned (was.waiting ++ keys) now.waiting)
  pub submits : Unless left Submits (SubmitsWaiting now.waiting bodies)
  pub next : Unless left Next (now.next ≡ was.next + length keys)

-- The fall of a node whose save of this change has failed, without a clause.
pub record FallsWithout (left : Clause) (w v : WorldState) (i : ℕ) (c : Change) : Type 0 where
  pub up : IsSome (w.seats i).up
  pub saves : MaySave w.sent (w.seats i).kept c
  pub kept : Unless left Fall_keeps
      (IsOneOf (v.seats i).kept (w.seats i).kept (changed (w.seats i).kept c))
  pub console : (v.seats i).console ≡ (w.seats i).console
  pub down : (v.seats i).up ≡ None
  pub rest : ChangesOnly w v i [] []

-- The delivery of a message that was sent, without a clause.
pub record DeliversWithout (left : Clause) (w v : WorldState) (message : Msg) (i : ℕ) : Type 0 where
  pub is_sent : Contains w.sent message
  pub saved : Option Change
  pub cause : Unless left Cause (MayCause message.body saved)
  pub call : CallsWithout left w v i saved []

-- The campaign whose save fails, without a clause.
pub record CampaignsWithout (left : Clause) (w v : WorldState) (i : ℕ) : Type 0 where
  pub round : ℕ
  pub falls : FallsWithout left w v i (change.Promise (record { round = round; node = i }))

-- The typing of one more key, without a clause.
pub record PressesWithout (left : Clause) (w v : WorldState) (i byte : ℕ) : Type 0 where
  pub key : Key
  pub node : key.node ≡ i
  pub start : Unless left Start_of_key (key.start ≡ (w.seats i).kept.starts)
  pub character : key.byte ≡ byte
  pub serial : Unless left Serial (IfSome (w.seats i).up (λ u. key.serial ≡ u.next))
  pub call : MakesCall w v i None (key ∷ [])

-- The start of a node that is down, over its own record, without a clause.
pub record StartsWithout (left : Clause) (w v : WorldState) (loaded : Record) (i : ℕ)
    : Type 0 where
  pub down : (w.seats i).up ≡ None
  pub own : loaded ≡ (w.seats i).kept
  pub kept : Record
  pub counts : Unless left Start_counts (kept ≡ changed (w.seats i).kept change.Start)
  pub leaves : v.seats i
      ≡ record { kept = kept; console = (w.seats i).console; up = Some (fresh w.program) }
  pub rest : ChangesOnly w v i [] []

-- The run of a node, at most so many steps, without a clause.
pub record RunsWithout (left : Clause) (w v : WorldState) (i steps : ℕ) : Type 0 where
  pub was : Up
  pub configuration : Configuration
  pub made : ℕ
  pub from : (w.seats i).up ≡ Some was
  pub few : made ≤ steps
  pub moves : Unless left Moves
      (MakesSteps w.program (learned_input was.learned) made was.configuration configuration)
  pub leaves : v.seats i
      ≡ record (w.seats i) { up = Some (record was { configuration = configuration }) }
  pub rest : ChangesOnly w v i [] []

-- The deeds that a clause is about, without it.
abbrev pub WeakerStep : Clause → WorldState → ℕ → Deed → WorldState → Type 0
WeakerStep left w i Tick v = CallsWithout left w v i None []
WeakerStep left w i (Hear message) v = DeliversWithout left w v message i
WeakerStep left w i Campaign v = CampaignsWithout left w v i
WeakerStep left w i (Press byte) v = PressesWithout left w v i byte
WeakerStep left w i (Start loaded) v = StartsWithout left w v loaded i
WeakerStep left w i (Run steps) v = RunsWithout left w v i steps
WeakerStep left w i deed v = WorldStep w i deed v

-- A step by the rules, or by the rules without this clause.
-- Allows: for each deed what the rules allow.
abbrev pub StepWithout : Clause → WorldState → ℕ → Deed → WorldState → Type 0
StepWithout left w i deed v = WorldStep w i deed v ⊎ WeakerStep left w i deed v
