-- The start of a node over an acceptor, which counts it.
use Rattle.std.specs.Prelude.{◌≡◌, ℕ, Result, Ok, Err}
use Rattle.paxos_acceptor.specs.Follows.{AcceptorState, CountsStart}
use Rattle.paxos_acceptor.specs.Stores.{StoreKind}
use Rattle.paxos_acceptor.specs.declared.fault.AcceptorFault.{AcceptorFault}
use Rattle.paxos_acceptor.specs.declared.me.Me.{Me}
use Rattle.group_protocol.specs.Calls.{node_fault}
use Rattle.group_protocol.specs.Known.{begun}
use Rattle.group_protocol.specs.States.{Protocol}
use Rattle.group_protocol.specs.declared.start.StartRefused.{StartRefused}

-- The result of a start, by what the acceptor answered when it counted the start, and what that
-- left of the acceptor: the node that begins over it, or the refusal, with the store.
-- Forbids: a node over an acceptor that has refused to count.
abbrev pub BeginsOver : {S : Type 0} → Me → AcceptorState S → Result ℕ AcceptorFault
    → Result (Protocol S) (StartRefused S) → Type 0
BeginsOver me left (Ok starts) (Ok p) =
    p ≡ record { known = begun me left.kept; is_stopped = left.is_closed; store = left.store }
BeginsOver me left (Err f) (Err e) = e ≡ record { fault = node_fault f; store = left.store }
BeginsOver me left (Ok starts) (Err e) = ⊥
BeginsOver me left (Err f) (Ok p) = ⊥

-- The start of a node over an acceptor, which counts one more start.
-- Source: Simple 2.5, stable storage.
-- Allows: an acceptor that has counted a start since it was opened.
-- Forbids: a node in a start that its acceptor has not saved.
pub record StartsOver {S : Type 0} (kind : StoreKind S) (me : Me) (acceptor : AcceptorState S)
    (result : Result (Protocol S) (StartRefused S)) : Type 0 where
  pub answer : Result ℕ AcceptorFault
  pub left : AcceptorState S
  pub counts : CountsStart kind acceptor left answer
  pub begins : BeginsOver me left answer result
