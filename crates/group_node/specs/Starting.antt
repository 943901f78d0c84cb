-- The start of a node over the answer of a load of its store.
use Rattle.std.specs.Prelude.{◌≡◌, ◌≢◌, ◌⊎◌, ◌↔◌, ◌<◌, false, None, Result, Ok, Err, IfErr, IfOk}
use Rattle.paxos_msg.specs.Batches.{Record}
use Rattle.paxos_acceptor.specs.Opening.{fault_of_load}
use Rattle.paxos_acceptor.specs.Records.{IsRecord}
use Rattle.paxos_acceptor.specs.Stores.{FailsAsPlanned, CountsIf, HasSameOwner, IsOneOf, LoadsFrom, MayLoadNoMore, MayLoadOnly, StoreKind}
use Rattle.paxos_acceptor.specs.declared.me.Me.{Me}
use Rattle.paxos_acceptor.specs.declared.store.StoreFault.{StoreFault}
use Rattle.group_protocol.specs.Calls.{node_fault}
use Rattle.group_protocol.specs.Known.{on_start}
use Rattle.group_node.specs.Output.{no_progress}
use Rattle.group_protocol.specs.Ranges.{IsInRange}
use Rattle.group_node.specs.States.{NodeState}
use Rattle.pcode_file.specs.Parts.{Parts}
use Rattle.paxos_msg.specs.Records.{changed}
use Rattle.paxos_msg.specs.declared.record.Change.TheVariants.{Start}
use Rattle.group_protocol.specs.declared.fault.NodeFault.{NodeFault}
use Rattle.group_protocol.specs.declared.fault.NodeFault.TheVariants.{BadRecord, StartsSpent, Store}
use Rattle.group_protocol.specs.declared.start.StartRefused.{StartRefused}
use Rattle.paxos_msg.specs.declared.limits.TheConstants.{LAST_START}

-- The claim that the start is refused with this fault.
abbrev pub IsStartRefused : {S : Type 0} → Result (NodeState S) (StartRefused S) → NodeFault
    → Type 0
IsStartRefused (Ok n) f = ⊥
IsStartRefused (Err e) f = e.fault ≡ f

-- The result of a start over a record that was loaded: a node that has this record with one more
-- start.
-- `BadRecord` is refused exactly if the record is out of its ranges, and `StartsSpent` exactly if
-- one in its ranges has counted 4,294,967,295 starts. Then the store is as the load left it. A save
-- that failed has used up the plan. A refusal gives back a store of the same node.
-- Of an honest store a restart may load the record with the start counted alone, once the node is
-- there, and after any refusal but `Store` no more than after the load. Whenever a crash comes,
-- what it might not load after the load is the record with the start counted.
-- Allows: any store, honest or not.
pub record StartsOnRecord {S : Type 0} (kind : StoreKind S) (me : Me) (kept : Record) (left : S)
    (result : Result (NodeState S) (StartRefused S)) : Type 0 where
  pub known : IfOk result (λ n. n.protocol.known ≡ (on_start me kept).node)
  pub bad : IsStartRefused result BadRecord ↔ ¬ IsRecord me.group.size kept
  pub spent : IsStartRefused result StartsSpent
      ↔ (IsRecord me.group.size kept × (kept.starts ≡ LAST_START))
  pub unsaved : IfErr result (λ e. (e.fault ≡ BadRecord) ⊎ (e.fault ≡ StartsSpent) → e.store ≡ left)
  pub owner : IfErr result (λ e. HasSameOwner kind left e.store)
  pub used_up : IfErr result (λ e. e.fault ≡ Store → (kind.state e.store).plan ≡ None)
  pub only : kind.honest
      → IfOk result (λ n. MayLoadOnly kind n.protocol.store (changed kept Start))
  pub same : kind.honest → IfErr result (λ e. e.fault ≢ Store → MayLoadNoMore kind left e.store)
  pub failed : kind.honest → IfErr result (λ e. (r : Record) → kind.may_load e.store r
      → kind.may_load left r ⊎ (r ≡ changed kept Start))

-- The result of a start, from the answer of its one load and the store that the load left.
-- A load that gives no record ends the start with its fault, and the store stays as the load left
-- it. An answer that the record is bad is refused as `BadRecord`.
-- Forbids: a node over a record that no load gave.
abbrev pub StartsAfter : {S : Type 0} → StoreKind S → Me → Result Record StoreFault → S
    → Result (NodeState S) (StartRefused S) → Type 0
StartsAfter kind me (Ok kept) left result = StartsOnRecord kind me kept left result
StartsAfter kind me (Err f) left result =
    result ≡ Err (record { fault = node_fault (fault_of_load f); store = left })

-- A start over the answer of one load, and over the store that the load left. An honest one answers
-- with a record that a restart may load before, and none may be loaded after it that might not be
-- loaded before.
-- Forbids: a start over a second load.
pub record StartsByLoad {S : Type 0} (kind : StoreKind S) (me : Me) (store : S)
    (result : Result (NodeState S) (StartRefused S)) : Type 0 where
  pub answer : Result Record StoreFault
  pub left : S
  pub loads : kind.loads store answer left
  pub may : LoadsFrom kind store left answer
  pub starts : StartsAfter kind me answer left result

-- What holds of a node that has just started, beside what it knows: it is not stopped, it is in its
-- ranges, and its machine has made no step and released nothing.
pub record IsFresh {S : Type 0} (program : Parts) (n : NodeState S) : Type 0 where
  pub works : n.protocol.is_stopped ≡ false
  pub progress : n.progress ≡ no_progress program
  pub ranges : IsInRange n.protocol.known

-- The result of a start over a store that has this record: a node over the record with one more
-- start, which the store then has too; or a refusal, whose store still has the record, or after a
-- fault of the device perhaps that with the start counted.
pub record StartsHonestly {S : Type 0} (kind : StoreKind S) (me : Me) (store : S)
    (result : Result (NodeState S) (StartRefused S)) : Type 0 where
  pub known : IfOk result (λ n. n.protocol.known ≡ (on_start me (kind.state store).stored).node)
  pub saved : IfOk result
      (λ n. (kind.state n.protocol.store).stored ≡ changed (kind.state store).stored Start)
  pub fit : IfOk result (λ _. IsRecord me.group.size (kind.state store).stored
      × ((kind.state store).stored.starts < LAST_START))
  pub bad : IfErr result
      (λ e. e.fault ≡ BadRecord → ¬ IsRecord me.group.size (kind.state store).stored)
  pub spent : IfErr result
      (λ e. e.fault ≡ StartsSpent → (kind.state store).stored.starts ≡ LAST_START)
  pub device : IfErr result (λ e. e.fault ≡ Store
      → IsOneOf (kind.state e.store).stored (kind.state store).stored
      (changed (kind.state store).stored Start))
  pub same : IfErr result
      (λ e. e.fault ≢ Store → (kind.state e.store).stored ≡ (kind.state store).stored)

-- A fault of the device as planned: the store had a start to spare, and has what the plan says.
pub record FailsStart {S : Type 0} (kind : StoreKind S) (store : S)
    (e : StartRefused S) : Type 0 where
  pub planned : FailsAsPlanned (kind.state store).plan (kind.state store).stored
      (changed (kind.state store).stored Start) (kind.state e.store).stored
  pub spare : (kind.state store).stored.starts < LAST_START

-- The plan of a store and the number of its faults after a start. `Ok` comes only without a plan.
-- `Store` alone counts one more fault and may use up the plan. An honest store that fails at will
-- then fails as planned.
pub record StartsByPlan {S : Type 0} (kind : StoreKind S) (store : S)
    (result : Result (NodeState S) (StartRefused S)) : Type 0 where
  pub ok : IfOk result
      (λ n. ((kind.state store).plan ≡ None) × ((kind.state n.protocol.store).plan ≡ None))
  pub err : IfErr result
      (λ e. e.fault ≢ Store → (kind.state e.store).plan ≡ (kind.state store).plan)
  pub quiet : IfOk result
      (λ n. (kind.state n.protocol.store).faults ≡ (kind.state store).faults)
  pub cause : IfErr result
      (λ e. CountsIf (e.fault ≡ Store) (kind.state store).faults (kind.state e.store).faults)
  pub planned : kind.honest → kind.fails_at_will → IfErr result
      (λ e. e.fault ≡ Store → FailsStart kind store e)
