-- The state of an acceptor, and the state after a call.
use Rattle.std.specs.Prelude.{◌≡◌, ◌≢◌, ◌↔◌, ◌⊎◌, ℕ, Bool, false, true, Option, None, Some, Result, IfOk, OnOk, OnErr, IsErrOf}
use Rattle.paxos_msg.specs.Batches.{Body, Change, Record}
use Rattle.paxos_msg.specs.declared.limits.TheConstants.{LAST_START}
use Rattle.paxos_msg.specs.declared.record.Change.TheVariants.{Start}
use Rattle.paxos_acceptor.specs.Answers.{Answer, after}
use Rattle.base.specs.Calls.{Mut}
use Rattle.paxos_acceptor.specs.Stores.{HasSameOwner, StoreKind, FailsAsPlanned, CountsIf, IsOneOf, MayLoadNoMore, MayLoadOnly}
use Rattle.paxos_acceptor.specs.declared.fault.AcceptorFault.{AcceptorFault}
use Rattle.paxos_acceptor.specs.declared.fault.AcceptorFault.TheVariants.{Store, Closed, StartsSpent}
use Rattle.paxos_acceptor.specs.declared.me.Me.{Me}
use Rattle.paxos_acceptor.specs.Records.{IsRecord}

-- The view of an acceptor: its node, its record, whether it is closed, and its store.
pub record AcceptorState (S : Type 0) : Type 0 where
  pub me : Me
  pub kept : Record
  pub is_closed : Bool
  pub store : S

-- An acceptor whose record is in its ranges, and is that of its store, if the store is honest and
-- the acceptor is not closed.
pub record IsAcceptorInStep {S : Type 0} (kind : StoreKind S) (a : AcceptorState S)
    : Type 0 where
  pub ranges : IsRecord a.me.group.size a.kept
  pub in_step : kind.honest → a.is_closed ≡ false → (kind.state a.store).stored ≡ a.kept

-- The acceptor and its store after a call that makes this change, if any, whatever it answers.
-- Source: Simple 2.5, stable storage.
-- Allows: A failed save that is found after all.
-- Forbids: An answer before its save.
pub record Follows {S T : Type 0} (kind : StoreKind S) (change : Option Change)
    (old new : AcceptorState S) (result : Result T AcceptorFault) : Type 0 where
  -- Its node stays, and whose record the store keeps. `Ok` makes the change in the acceptor's
  -- record; an error leaves that as it was.
  pub me : new.me ≡ old.me
  pub owner : HasSameOwner kind old.store new.store
  pub ok : OnOk result (new.kept ≡ after old.kept change)
  pub err : OnErr result (new.kept ≡ old.kept)
  -- A call is `Closed` exactly if the acceptor was closed before. `Store` closes it, and no other
  -- answer does.
  pub closed : IsErrOf result Closed ↔ (old.is_closed ≡ true)
  pub closes : (new.is_closed ≡ true) ↔ ((old.is_closed ≡ true) ⊎ IsErrOf result Store)
  -- Where there is nothing to save, and after `Closed` and `StartsSpent`, the acceptor and its
  -- store are as they were.
  pub idle : change ≡ None → new ≡ old
  pub refused : IsErrOf result Closed ⊎ IsErrOf result StartsSpent → new ≡ old
  -- An honest store has the new record after `Ok`, the old or the new one after `Store`, and after
  -- any other error the same one as before.
  pub saved : kind.honest → OnOk result ((kind.state new.store).stored ≡ after old.kept change)
  pub device : kind.honest → IsErrOf result Store
      → IsOneOf (kind.state new.store).stored old.kept (after old.kept change)
  pub unsaved : kind.honest → OnErr result (¬ IsErrOf result Store
      → (kind.state new.store).stored ≡ (kind.state old.store).stored)
  -- After `Ok` of a call that saves, a restart may load the new record of an honest store alone,
  -- and after an error other than `Store` no more than before. Whatever the answer, and whenever a
  -- crash comes, what it might not load before is the new record.
  pub only : kind.honest → change ≢ None
      → OnOk result (MayLoadOnly kind new.store (after old.kept change))
  pub left : kind.honest → OnErr result (¬ IsErrOf result Store
      → MayLoadNoMore kind old.store new.store)
  pub no_more : kind.honest → (q : Record) → kind.may_load new.store q
      → kind.may_load old.store q ⊎ (q ≡ after old.kept change)
  -- No save succeeds under a plan. `Store` uses the plan up, and nothing else changes it. An honest
  -- store that fails at will fails only under a plan, and then has the record that the plan says.
  pub unplanned : change ≢ None → OnOk result ((kind.state old.store).plan ≡ None)
  pub used_up : IsErrOf result Store → (kind.state new.store).plan ≡ None
  pub plan : ¬ IsErrOf result Store → (kind.state new.store).plan ≡ (kind.state old.store).plan
  pub planned : kind.honest → kind.fails_at_will → IsErrOf result Store
      → FailsAsPlanned (kind.state old.store).plan old.kept (after old.kept change)
      (kind.state new.store).stored
  -- `Store` counts one more fault, and no other answer counts one.
  pub cause : CountsIf (IsErrOf result Store) (kind.state old.store).faults
      (kind.state new.store).faults

-- The acceptor after a call that gives this answer: `Ok` says it, after its change is saved.
-- Forbids: An answer before its save.
pub record Answers {S : Type 0} (kind : StoreKind S) (answer : Answer)
    (acceptor : Mut (AcceptorState S)) (result : Result Body AcceptorFault) : Type 0 where
  pub says : IfOk result (λ body. body ≡ answer.says)
  pub follows : Follows kind answer.saves acceptor.entry.now acceptor.exit.now result

-- The acceptor after a call that counts one more start: `Ok` says how many there are then. It is
-- `StartsSpent` exactly if the acceptor was open and had counted as many as can be.
-- Forbids: A start whose number was given before.
pub record CountsStart {S : Type 0} (kind : StoreKind S) (old new : AcceptorState S)
    (result : Result ℕ AcceptorFault) : Type 0 where
  pub says : IfOk result (λ starts. starts ≡ new.kept.starts)
  pub follows : Follows kind (Some Start) old new result
  pub spent : IsErrOf result StartsSpent
      ↔ ((old.is_closed ≡ false) × (old.kept.starts ≡ LAST_START))
