-- A run of a node as its cycles: what a cycle is, and the list of them.
use Rattle.std.specs.Prelude.{◌≡◌, ◌<◌, ◌⊎◌, ℕ, zero, suc, List, [], ◌∷◌, Option, Some, Result, Ok, Err, IfErr}
use Rattle.paxos_acceptor.specs.Stores.{StoreKind}
use Rattle.group_protocol.specs.declared.fault.NodeFault.{NodeFault}
use Rattle.group_protocol.specs.Known.{front}
use Rattle.group_node.specs.Deeds.{Run}
use Rattle.group_node.specs.Output.{IsReplay}
use Rattle.group_node.specs.States.{NodeState, input}
use Rattle.node_io.specs.declared.fault.GroupFault.{GroupFault}
use Rattle.node_io.specs.declared.fault.GroupFault.TheVariants as group
use Rattle.node_io.specs.Prompts.{GivesWhatCame}
use Rattle.node_io.specs.Refusals.{IsCampaignRefusal}
use Rattle.group_wire.specs.declared.answers.Received.{Received}
use Rattle.group_wire.specs.declared.answers.Turned.{Turned}
use Rattle.group_wire.specs.declared.rested.Rested.{Rested}
use Rattle.group_wire.specs.declared.rested.Rested.TheVariants.{Awaits, From}
use Rattle.group_wire.specs.declared.limits.TheConstants.{TURN_STEPS}
use Rattle.group_wire.specs.Doings.{HasActed}
use Rattle.group_wire.specs.Traffic.{Traffic}
use Rattle.group_wire.specs.Turns.{HasHeard, HasTurned, SameReleased}
use Rattle.node_run.specs.declared.answering.Answered.{Answered}
use Rattle.node_run.specs.declared.cycles.RunPlan.{RunPlan}
use Rattle.node_run.specs.declared.retries.Retried.{Retried}
use Rattle.node_run.specs.Answering.{AnswersWhatCame, HasAnsweredKeyboard}
use Rattle.node_run.specs.Course.{Surroundings, CampaignsIf, FailsAt}
use Rattle.node_run.specs.Releases.{HasReleased}
use Rattle.node_run.specs.Retries.{HasRetried}

-- A moment of a run: the node, what is around it, and what its writer holds.
pub record RunMoment (S : Type 0) : Type 0 where
  pub node : NodeState S
  pub around : Surroundings
  pub written : Option (List ℕ)

-- These three, put together.
abbrev pub run_moment : {S : Type 0} → NodeState S → Surroundings → Option (List ℕ) → RunMoment S
run_moment node around written = record { node = node; around = around; written = written }

-- ---- the parts of a cycle

-- So many receives, one after the other, and nothing else: each time a message was heard, a
-- datagram was dropped or lost, or nothing came.
abbrev pub HearsTimes : {S : Type 0} → StoreKind S → ℕ → NodeState S → NodeState S → Option Traffic
    → Option Traffic → Type 0
HearsTimes kind zero old new from to = (new ≡ old) × (to ≡ from)
HearsTimes {S} kind (suc n) old new from to =
    (mid : NodeState S) × (via : Option Traffic) × (received : Received)
    × HearsTimes kind n old mid from via × HasHeard kind mid new via to (Ok received)

-- One receive of a rest, by its answer.
abbrev pub HearsOnce : {S T : Type 0} → StoreKind S → NodeState S → NodeState S → Option Traffic
    → Option Traffic → Result T GroupFault → Type 0
HearsOnce kind old new from to (Ok x) =
    (received : Received) × HasHeard kind old new from to (Ok received)
HearsOnce kind old new from to (Err e) =
    (fault : NodeFault) × HasHeard kind old new from to (Err fault) × (e ≡ group.Node fault)

-- All receives of a rest, by its answer. They are deeds without a prompt, up to the one at which a
-- save fails.
abbrev pub HearsAtRest : {S T : Type 0} → StoreKind S → NodeState S → NodeState S → Option Traffic
    → Option Traffic → Result T GroupFault → Type 0
HearsAtRest kind old new from to (Ok x) =
    (times : ℕ) × HearsTimes kind times old new from to × HasActed old new from to []
HearsAtRest {S} {T} kind old new from to (Err e) =
    (times : ℕ) × (mid : NodeState S) × (via : Option Traffic)
    × HearsTimes kind times old mid from via × HasActed old mid from via []
    × HearsOnce {T = T} kind mid new via to (Err e) × FailsAt kind mid new via to [] e

-- A rest: the node may receive, which are deeds without a prompt. It may look at its keyboard, to
-- which something may come, and takes nothing from that.
-- Allows: no receive, also if the node is not busy.
pub record Rests {S : Type 0} (kind : StoreKind S) (a b : RunMoment S) : Type 0 where
  pub times : ℕ
  pub hears : HearsTimes kind times a.node b.node a.around.traffic b.around.traffic
  pub acts : HasActed a.node b.node a.around.traffic b.around.traffic []
  pub looks : GivesWhatCame a.around.keyboard [] b.around.keyboard
  pub retries : b.around.retries ≡ a.around.retries
  pub unwritten : b.written ≡ a.written

-- The node campaigns once more for a request, if that is due.
pub record CampaignsAgain {S : Type 0} (kind : StoreKind S) (retried : Retried)
    (a b : RunMoment S) : Type 0 where
  pub did : HasRetried kind a.node b.node a.around b.around (Ok retried)
  pub unwritten : b.written ≡ a.written

-- The node looks at its keyboard once and answers it. It answers a request: it campaigns, ignores
-- it, or cannot. Without one it types all bytes for which it has room.
pub record AnswersKeyboard {S : Type 0} (kind : StoreKind S) (answer : Answered)
    (a b : RunMoment S) : Type 0 where
  pub did : AnswersWhatCame kind answer a.node b.node a.around b.around
  pub unwritten : b.written ≡ a.written

-- What a turn knows of its cycle, at the begin of which the known front was this one. Answers may
-- be due, which the wire says.
abbrev pub IsRestedSince : ℕ → Rested → Type 0
IsRestedSince begun rested = (rested ≡ From begun) ⊎ (rested ≡ Awaits begun)

-- A turn: the node hears, ticks if that is due and memory suffices, and runs its machine. Then its
-- progress is that of a replay from the start on the learned input (`IsReplay`). The tick is not
-- due if the known front is above `begun` and the node has caught up; or if it is, answers are due,
-- and no key waits. Otherwise it is due (`IsTickDue`).
pub record TakesTurn {S : Type 0} (kind : StoreKind S) (begun : ℕ) (turned : Turned)
    (a b : RunMoment S) : Type 0 where
  pub rested : Rested
  pub since : IsRestedSince begun rested
  pub did : HasTurned kind rested a.node b.node a.around.traffic b.around.traffic (Ok turned)
  pub acts : HasActed a.node b.node a.around.traffic b.around.traffic (Run TURN_STEPS ∷ [])
  pub replay : IsReplay (input b.node.protocol.known) b.node.progress
  pub untyped : b.around.keyboard ≡ a.around.keyboard
  pub retries : b.around.retries ≡ a.around.retries
  pub unwritten : b.written ≡ a.written

-- A release of output, with its answer.
pub record ReleasesOutput {S : Type 0} (seen : ℕ) (a b : RunMoment S)
    (result : Result (Unit {0}) GroupFault) : Type 0 where
  pub did : HasReleased seen (record { node = a.node; written = a.written })
      (record { node = b.node; written = b.written }) result
  pub acts : HasActed a.node b.node a.around.traffic b.around.traffic []
  pub alone : b.around ≡ a.around

-- ---- a cycle, and many

-- The known front of the node at a moment.
abbrev pub front_at : {S : Type 0} → RunMoment S → ℕ
front_at a = front a.node.protocol.known

-- A cycle up to its release: a rest, a campaign once more if one is due, the keyboard, and a turn.
-- The turn leaves its tick out if the known front has risen since the cycle began and the node has
-- caught up, or awaits answers and has no key that waits. Nothing is released.
pub record IsCycleUpToRelease {S : Type 0} (kind : StoreKind S) (a b : RunMoment S) : Type 0 where
  pub rested : RunMoment S
  pub tried : RunMoment S
  pub answered : RunMoment S
  pub retried : Retried
  pub answer : Answered
  pub turned : Turned
  pub rests : Rests kind a rested
  pub campaigns : CampaignsAgain kind retried rested tried
  pub answers : AnswersKeyboard kind answer tried answered
  pub turns : TakesTurn kind (front_at a) turned answered b
  pub stays : SameReleased a.node b.node

-- A cycle. At its end all output that waits is released, and written from number `seen` on.
pub record IsCycle {S : Type 0} (kind : StoreKind S) (seen : ℕ) (a b : RunMoment S) : Type 0 where
  pub mid : RunMoment S
  pub turns : IsCycleUpToRelease kind a mid
  pub releases : ReleasesOutput seen mid b (Ok tt)

-- So many cycles, one after the other.
abbrev pub AreCycles : {S : Type 0} → StoreKind S → ℕ → ℕ → RunMoment S → RunMoment S → Type 0
AreCycles kind seen zero a b = b ≡ a
AreCycles {S} kind seen (suc n) a b =
    (mid : RunMoment S) × AreCycles kind seen n a mid × IsCycle kind seen mid b

-- ---- how a run ends early

-- A rest that is refused: a save fails at what it hears.
pub record EndsAtRest {S : Type 0} (kind : StoreKind S) (a b : RunMoment S) (e : GroupFault)
    : Type 0 where
  pub rested : RunMoment S
  pub rests : Rests kind a rested
  pub hears : HearsOnce {T = Unit {0}} kind rested.node b.node rested.around.traffic
      b.around.traffic (Err e)
  pub fails : FailsAt kind rested.node b.node rested.around.traffic b.around.traffic [] e
  pub untyped : b.around.keyboard ≡ rested.around.keyboard
  pub retries : b.around.retries ≡ rested.around.retries
  pub unwritten : b.written ≡ rested.written

-- A campaign once more is refused: a save fails in it.
pub record EndsAtRetry {S : Type 0} (kind : StoreKind S) (a b : RunMoment S) (e : GroupFault)
    : Type 0 where
  pub rested : RunMoment S
  pub rests : Rests kind a rested
  pub did : HasRetried kind rested.node b.node rested.around b.around (Err e)
  pub unwritten : b.written ≡ rested.written

-- The answer to the keyboard is refused.
pub record EndsAtKeyboard {S : Type 0} (kind : StoreKind S) (a b : RunMoment S) (e : GroupFault)
    : Type 0 where
  pub rested : RunMoment S
  pub tried : RunMoment S
  pub retried : Retried
  pub rests : Rests kind a rested
  pub campaigns : CampaignsAgain kind retried rested tried
  pub did : HasAnsweredKeyboard kind tried.node b.node tried.around b.around (Err e)
  pub unwritten : b.written ≡ tried.written

-- The turn is refused: a save fails at what it hears.
pub record EndsAtTurn {S : Type 0} (kind : StoreKind S) (a b : RunMoment S) (e : GroupFault)
    : Type 0 where
  pub rested : RunMoment S
  pub tried : RunMoment S
  pub answered : RunMoment S
  pub retried : Retried
  pub answer : Answered
  pub rests : Rests kind a rested
  pub campaigns : CampaignsAgain kind retried rested tried
  pub answers : AnswersKeyboard kind answer tried answered
  pub fault : NodeFault
  pub how : Rested
  pub since : IsRestedSince (front_at a) how
  pub did : HasTurned kind how answered.node b.node answered.around.traffic
      b.around.traffic (Err fault)
  pub is : e ≡ group.Node fault
  pub fails : FailsAt kind answered.node b.node answered.around.traffic b.around.traffic [] e
  pub untyped : b.around.keyboard ≡ answered.around.keyboard
  pub retries : b.around.retries ≡ answered.around.retries
  pub unwritten : b.written ≡ answered.written

-- A cycle that is refused before its release. Nothing is released.
abbrev pub EndsBeforeRelease : {S : Type 0} → StoreKind S → RunMoment S → RunMoment S → GroupFault
    → Type 0
EndsBeforeRelease kind a b e =
    SameReleased a.node b.node × (EndsAtRest kind a b e
    ⊎ (EndsAtRetry kind a b e ⊎ (EndsAtKeyboard kind a b e ⊎ EndsAtTurn kind a b e)))

-- A cycle up to its release, by its answer.
abbrev pub TurnsOrEnds : {S T : Type 0} → StoreKind S → RunMoment S → RunMoment S
    → Result T GroupFault → Type 0
TurnsOrEnds kind a b (Ok x) = IsCycleUpToRelease kind a b
TurnsOrEnds kind a b (Err e) = EndsBeforeRelease kind a b e

-- A cycle that is refused: before its release, or at it, because a write fails.
abbrev pub EndsInCycle : {S : Type 0} → StoreKind S → ℕ → RunMoment S → RunMoment S → GroupFault
    → Type 0
EndsInCycle {S} kind seen a b e =
    EndsBeforeRelease kind a b e
    ⊎ ((mid : RunMoment S) × IsCycleUpToRelease kind a mid × ReleasesOutput seen mid b (Err e))

-- A cycle by its answer.
abbrev pub DoesCycle : {S T : Type 0} → StoreKind S → ℕ → RunMoment S → RunMoment S
    → Result T GroupFault → Type 0
DoesCycle kind seen a b (Ok x) = IsCycle kind seen a b
DoesCycle kind seen a b (Err e) = EndsInCycle kind seen a b e

-- The cycles of a run by its answer: all of `turns` at `Ok`, or fewer, and one that was refused.
-- Forbids: a run that ends early in any other way.
abbrev pub DoesCycles : {S : Type 0} → StoreKind S → ℕ → ℕ → RunMoment S → RunMoment S
    → Result (Unit {0}) GroupFault → Type 0
DoesCycles kind seen turns a b (Ok x) = AreCycles kind seen turns a b
DoesCycles {S} kind seen turns a b (Err e) =
    (made : ℕ) × (mid : RunMoment S) × (made < turns) × AreCycles kind seen made a mid
    × EndsInCycle kind seen mid b e

-- ---- a run

-- A campaign before the first cycle, if the plan has one, with its answer.
pub record Begins {S : Type 0} (kind : StoreKind S) (plan : RunPlan) (a b : RunMoment S)
    (result : Result (Unit {0}) GroupFault) : Type 0 where
  pub did : CampaignsIf kind plan.campaigns a.node b.node a.around.traffic b.around.traffic result
  pub why : IfErr result IsCampaignRefusal
  pub unmoved : b.node.progress ≡ a.node.progress
  pub stays : SameReleased a.node b.node
  pub untyped : b.around.keyboard ≡ a.around.keyboard
  pub retries : b.around.retries ≡ a.around.retries
  pub unwritten : b.written ≡ a.written

-- A run of this plan from the start of its node on: the campaign of the plan is refused; or it is
-- not, and then there are the cycles.
abbrev pub IsRun : {S : Type 0} → StoreKind S → RunPlan → RunMoment S → RunMoment S
    → Result (Unit {0}) GroupFault → Type 0
IsRun {S} kind plan a b result =
    ((e : GroupFault) × (result ≡ Err e) × Begins kind plan a b (Err e))
    ⊎ ((mid : RunMoment S) × Begins kind plan a mid (Ok tt)
    × DoesCycles kind plan.seen plan.turns mid b result)
