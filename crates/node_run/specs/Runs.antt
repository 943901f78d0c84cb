-- What a whole run of a node does, what passes over its wire, what is typed at it, and what it
-- writes.
use Rattle.std.specs.Prelude.{◌≡◌, ◌≢◌, ◌<◌, ◌≤◌, ◌⊎◌, ℕ, false, true, List, [], ◌++◌, length, Option, Result, Ok, Err, IfErr, IsErrAnd, IsErrOf, OnOk}
use Rattle.std.specs.Io.KnownBytes.{Appends}
use Rattle.paxos_acceptor.specs.declared.me.Me.{Me}
use Rattle.paxos_acceptor.specs.Stores.{MayLoadOnly, StoreKind}
use Rattle.pcode_file.specs.Parts.{Parts}
use Rattle.group_protocol.specs.declared.fault.NodeFault.TheVariants.{SerialSpent, Store}
use Rattle.group_protocol.specs.declared.start.StartRefused.{StartRefused}
use Rattle.group_node.specs.declared.limits.TheConstants.{RING_BYTES}
use Rattle.group_node.specs.Deeds.{Deed}
use Rattle.group_node.specs.Output.{IsReplay}
use Rattle.group_node.specs.States.{NodeState, input}
use Rattle.group_node.specs.NodeCalls.{Running, unreleased_by}
use Rattle.group_wire.specs.Process.{RunsAsProcess}
use Rattle.group_wire.specs.Starts.{HasStarted}
use Rattle.node_io.specs.declared.fault.GroupFault.{GroupFault}
use Rattle.node_io.specs.declared.fault.GroupFault.TheVariants as group
use Rattle.node_run.specs.declared.cycles.RunPlan.{RunPlan}
use Rattle.node_run.specs.Cycles.{IsRun, run_moment}
use Rattle.node_run.specs.Course.{Surroundings, HasReason, planned}
use Rattle.node_run.specs.Output.{released_from}
use Rattle.node_io.specs.Prompts.{GivesWhatCame}
use Rattle.node_run.specs.Prompted.{IsPrompted}
use Rattle.node_io.specs.Refusals.{IsCampaignRefusal, IsWrittenCycleRefusal, write_failed}

-- What a run has written: the released bytes from number `seen` on, in order, but for those that
-- are `lost`. If a write failed (`fails`), these are the last of them: at least one, and at most
-- 256. Otherwise none is lost. The released bytes are output of the program on what the node has
-- learned.
-- Allows: nothing, if nothing was released or all was seen; any bytes, if the writer's are unknown.
-- Forbids: a byte left out before one that is written; a byte that is written twice, or was not
-- released.
pub record WritesReleased (seen : ℕ) (last : Running) (fails : Type 0) (from to : Option (List ℕ))
    : Type 0 where
  pub replay : IsReplay (input last.known) last.progress
  pub wrote : List ℕ
  pub lost : List ℕ
  pub whole : released_from seen (input last.known) last.progress ≡ wrote ++ lost
  pub some : fails → 0 < length lost
  pub few : length lost ≤ RING_BYTES
  pub none : ¬ fails → lost ≡ []
  pub appended : Appends from to wrote

-- Why a run of this plan may end early: a cycle is refused, or the campaign that the plan asks for.
-- Forbids: the refusal of a campaign that nobody asked for.
abbrev pub IsEarlyEnd : RunPlan → GroupFault → Type 0
IsEarlyEnd plan e = IsWrittenCycleRefusal e ⊎ ((plan.campaigns ≡ true) × IsCampaignRefusal e)

-- A run of a node that has started, as a process of its group over one load of its store, which is
-- `end` after it. All that passes over its wire is what passes in its deeds. It campaigns first if
-- its plan says so, or takes no turn because that campaign could not begin. Its other prompts are
-- as `IsPrompted` says. At `Ok` it has taken all turns of the plan, and no output waits; at `Err`
-- it has taken at most those. It ends at its first failed save.
-- Allows: turns at which nothing is heard.
-- Forbids: output that waits at `Ok`.
pub record RunsNode {S : Type 0} (kind : StoreKind S) (me : Me) (program : Parts) (store end : S)
    (plan : RunPlan) (from to : Surroundings) (before after : Option (List ℕ))
    (result : Result (Unit {0}) GroupFault) : Type 0 where
  pub last : Running
  pub first : List Deed
  pub prompts : List Deed
  pub runs : RunsAsProcess kind me program store last end from.traffic to.traffic
      (first ++ prompts) (IsErrOf result (group.Node Store))
  pub turns : ℕ
  pub begun : (first ≡ planned plan.campaigns) ⊎ ((first ≡ []) × (turns ≡ 0)
      × IsErrAnd result (λ e. (e ≢ group.Node Store) × IsCampaignRefusal e))
  pub gift : List Deed
  pub given : GivesWhatCame from.keyboard gift to.keyboard
  pub follows : IsPrompted gift turns from.retries to.retries
      (IsErrOf result (group.Node SerialSpent)) prompts
  pub few : turns ≤ plan.turns
  pub all : OnOk result (turns ≡ plan.turns)
  pub ends : IfErr result (IsEarlyEnd plan)
  pub due : IfErr result (λ e. HasReason e last.known)
  pub writes : WritesReleased plan.seen last (IsErrOf result write_failed) before after
  pub none_waits : OnOk result (unreleased_by last ≡ [])

-- A run of a node as its cycles: from the node that one load of the store gave to the one that
-- leaves the store `end`. It says what the node did in which order. It campaigns first if its plan
-- says so. In each cycle it rests, campaigns again if that is due, looks at its keyboard and
-- answers it, takes its turn (it hears, ticks if that is due, and runs its machine), and releases
-- its output. In the end its machine is where a replay is. If the store is honest and no save has
-- failed, a restart may load from `end` only the node's record. By the law `cycles_are_a_run` it is
-- a run of a process.
-- Forbids: a cycle without its turn, its release, or a look at a keyboard that counts looks, but
-- for the one that is refused.
pub record RunsInCycles {S : Type 0} (kind : StoreKind S) (me : Me) (program : Parts)
    (store end : S) (plan : RunPlan) (from to : Surroundings) (before after : Option (List ℕ))
    (result : Result (Unit {0}) GroupFault) : Type 0 where
  pub start : NodeState S
  pub final : NodeState S
  pub starts : HasStarted kind me program store (Ok start)
  pub run : IsRun kind plan (run_moment start from before) (run_moment final to after) result
  pub replay : IsReplay (input final.protocol.known) final.progress
  pub left : end ≡ final.protocol.store
  pub loads : kind.honest → final.protocol.is_stopped ≡ false
      → MayLoadOnly kind end final.protocol.known.kept

-- A start that is refused: nothing passes, nothing is typed, and nothing is written.
abbrev pub RefusesToStart : {S : Type 0} → StoreKind S → Me → Parts → S → S → Surroundings
    → Surroundings → Option (List ℕ) → Option (List ℕ) → Result (Unit {0}) GroupFault → Type 0
RefusesToStart {S} kind me program store end from to before after result =
    (refused : StartRefused S) × HasStarted kind me program store (Err refused)
    × (end ≡ refused.store) × (to ≡ from) × (after ≡ before)
    × (result ≡ Err (group.Node refused.fault))

-- A run of a node over a store, a wire and a keyboard, and the store `end` after it. Its start is
-- refused, or it starts, and runs.
abbrev pub RunsOrRefuses : {S : Type 0} → StoreKind S → Me → Parts → S → S → RunPlan → Surroundings
    → Surroundings → Option (List ℕ) → Option (List ℕ) → Result (Unit {0}) GroupFault → Type 0
RunsOrRefuses kind me program store end plan from to before after result =
    RefusesToStart kind me program store end from to before after result
    ⊎ RunsNode kind me program store end plan from to before after result

-- The same, of a run that is known as its cycles.
abbrev pub CyclesOrRefuses : {S : Type 0} → StoreKind S → Me → Parts → S → S → RunPlan
    → Surroundings → Surroundings → Option (List ℕ) → Option (List ℕ)
    → Result (Unit {0}) GroupFault → Type 0
CyclesOrRefuses kind me program store end plan from to before after result =
    RefusesToStart kind me program store end from to before after result
    ⊎ RunsInCycles kind me program store end plan from to before after result
