-- The opening of an acceptor, by the answer of a load of its store.
use Rattle.std.specs.Prelude.{◌≡◌, ◌≢◌, false, Result, Ok, Err, IfErr, IfOk, MatchResult}
use Rattle.paxos_msg.specs.Batches.{Record}
use Rattle.paxos_acceptor.specs.declared.acceptor.OpenRefused.{OpenRefused}
use Rattle.paxos_acceptor.specs.declared.fault.AcceptorFault.{AcceptorFault}
use Rattle.paxos_acceptor.specs.declared.fault.AcceptorFault.TheVariants as acceptor
use Rattle.paxos_acceptor.specs.declared.me.Me.{Me}
use Rattle.paxos_acceptor.specs.declared.store.StoreFault.{StoreFault}
use Rattle.paxos_acceptor.specs.declared.store.StoreFault.TheVariants as store
use Rattle.paxos_acceptor.specs.Records.{IsRecord}
use Rattle.paxos_acceptor.specs.Follows.{AcceptorState}
use Rattle.paxos_acceptor.specs.Stores.{CountsIf, LoadsFrom, StoreKind}

-- The acceptor's fault for the fault of a load.
abbrev pub fault_of_load : StoreFault → AcceptorFault
fault_of_load store.Memory = acceptor.Memory
fault_of_load store.Device = acceptor.Store
fault_of_load store.Bad = acceptor.BadRecord

-- The result of opening, by the answer of the load and the store that the load left. The acceptor
-- has the loaded record, if that is in its ranges. Else, or if the load failed, a refusal gives the
-- store back.
-- Allows: Any store, honest or not.
-- Forbids: A record that no load returned.
abbrev pub Opens : {S : Type 0} → Me → Result Record StoreFault → S
    → Result (AcceptorState S) (OpenRefused S) → Type 0
Opens me (Ok kept) left (Ok a) =
    IsRecord me.group.size kept
    × (a ≡ record { me = me; kept = kept; is_closed = false; store = left })
Opens me (Ok kept) left (Err e) =
    ¬ IsRecord me.group.size kept × (e ≡ record { fault = acceptor.BadRecord; store = left })
Opens me (Err f) left (Ok a) = ⊥
Opens me (Err f) left (Err e) = e ≡ record { fault = fault_of_load f; store = left }

-- The result of opening over the answer of one load, and over the store that the load left. An
-- honest one returns a record that a restart may load before, and none may be loaded after it that
-- might not be loaded before.
-- Allows: Any store, honest or not.
-- Forbids: A second load.
pub record OpensOnce {S : Type 0} (kind : StoreKind S) (me : Me) (store : S)
    (result : Result (AcceptorState S) (OpenRefused S)) : Type 0 where
  pub answer : Result Record StoreFault
  pub left : S
  pub loads : kind.loads store answer left
  pub may : LoadsFrom kind store left answer
  pub opens : Opens me answer left result

-- An acceptor that has just been opened: not closed, its record in its ranges, of this node.
pub record IsOpened {S : Type 0} (me : Me) (a : AcceptorState S) : Type 0 where
  pub is_open : a.is_closed ≡ false
  pub ranges : IsRecord me.group.size a.kept
  pub node : a.me ≡ me

-- The result of opening over a store that has this record, which the store keeps: an acceptor with
-- the record, or a refusal, as `BadRecord` only where the record is out of its ranges.
pub record OpensFrom {S : Type 0} (kind : StoreKind S) (me : Me) (store : S)
    (result : Result (AcceptorState S) (OpenRefused S)) : Type 0 where
  pub loaded : IfOk result (λ a. (a.kept ≡ (kind.state store).stored)
      × ((kind.state a.store).stored ≡ (kind.state store).stored))
  pub same : IfErr result (λ e. (kind.state e.store).stored ≡ (kind.state store).stored)
  pub bad : IfErr result (λ e. e.fault ≡ acceptor.BadRecord
      → ¬ IsRecord me.group.size (kind.state store).stored)

-- The plan of a store and the number of its faults after opening. The plan stays. A store that
-- fails at will is never refused with `Store`, which alone counts one more fault.
pub record OpensByPlan {S : Type 0} (kind : StoreKind S) (store : S)
    (result : Result (AcceptorState S) (OpenRefused S)) : Type 0 where
  pub plan : MatchResult result (λ a. (kind.state a.store).plan ≡ (kind.state store).plan)
      (λ e. (kind.state e.store).plan ≡ (kind.state store).plan)
  pub sure : kind.fails_at_will → IfErr result (λ e. e.fault ≢ acceptor.Store)
  pub quiet : IfOk result (λ a. (kind.state a.store).faults ≡ (kind.state store).faults)
  pub cause : IfErr result (λ e. CountsIf (e.fault ≡ acceptor.Store) (kind.state store).faults
      (kind.state e.store).faults)
