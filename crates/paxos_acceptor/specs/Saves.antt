-- The state after a change that is saved.
use Rattle.std.specs.Prelude.{◌≡◌, ◌↔◌, ◌⊎◌, Bool, true, None, Result, Err, OnOk, OnErr, IsErrOf}
use Rattle.paxos_msg.specs.Batches.{Change, Record}
use Rattle.paxos_msg.specs.Records.{changed}
use Rattle.base.specs.Calls.{Mut}
use Rattle.paxos_acceptor.specs.Stores.{HasSameOwner, StoreKind, StoreState, FailsAsPlanned, CountsIf, IsOneOf, MayLoadNoMore, MayLoadOnly, new_state, old_state}
use Rattle.paxos_acceptor.specs.declared.fault.AcceptorFault.{AcceptorFault}
use Rattle.paxos_acceptor.specs.declared.fault.AcceptorFault.TheVariants.{Memory, Store}

-- The store and the acceptor after a save of the record `next`. At Ok the store has it. If memory
-- runs out it has the old one. A fault of the device is counted and closes the acceptor. Then the
-- store has the old or the new record, and the planned one if it fails at will.
pub record SavesRecord {S T : Type 0} (kind : StoreKind S) (next : Record) (old new : StoreState)
    (is_closed : Bool) (result : Result T AcceptorFault) : Type 0 where
  pub saved : kind.honest → OnOk result (new.stored ≡ next)
  pub memory : kind.honest → IsErrOf result Memory → new.stored ≡ old.stored
  pub device : kind.honest → IsErrOf result Store → IsOneOf new.stored old.stored next
  pub planned : kind.fails_at_will → IsErrOf result Store
      → FailsAsPlanned old.plan old.stored next new.stored
  pub unplanned : OnOk result (old.plan ≡ None)
  pub used_up : IsErrOf result Store → new.plan ≡ None
  pub plan : ¬ IsErrOf result Store → new.plan ≡ old.plan
  pub cause : CountsIf (IsErrOf result Store) old.faults new.faults
  pub closed : (is_closed ≡ true) ↔ IsErrOf result Store
  pub others : OnErr result ((result ≡ Err Memory) ⊎ (result ≡ Err Store))

-- What a restart may load of the stores before and after a save of the record `next`, which are of
-- the same node. At Ok it may
-- load `next` alone. If memory runs out it may load no more than before. Whatever the answer, what
-- it might not load before is `next`.
pub record LeavesRecords {S T : Type 0} (kind : StoreKind S) (next : Record) (old new : S)
    (result : Result T AcceptorFault) : Type 0 where
  pub owner : HasSameOwner kind old new
  pub only : kind.honest → OnOk result (MayLoadOnly kind new next)
  pub memory : kind.honest → IsErrOf result Memory → MayLoadNoMore kind old new
  pub no_more : kind.honest → (q : Record) → kind.may_load new q
      → kind.may_load old q ⊎ (q ≡ next)

-- The store and the acceptor after a save that makes this change in the store's record.
pub record SavesChange {S T : Type 0} (kind : StoreKind S) (change : Change) (store : Mut S)
    (is_closed : Bool) (result : Result T AcceptorFault) : Type 0 where
  pub saves : SavesRecord kind (changed (old_state kind store).stored change)
      (old_state kind store) (new_state kind store) is_closed result
  pub leaves : LeavesRecords kind (changed (old_state kind store).stored change)
      store.entry.now store.exit.now result
