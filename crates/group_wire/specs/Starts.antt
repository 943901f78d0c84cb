-- The start of a node over its store.
use Rattle.std.specs.Prelude.{◌≡◌, ◌⊎◌, [], ◌∷◌, Result, Err, IfErr, IfOk}
use Rattle.base.specs.Calls.{IsAmong}
use Rattle.paxos_acceptor.specs.Stores.{StoreKind}
use Rattle.paxos_acceptor.specs.declared.me.Me.{Me}
use Rattle.pcode_file.specs.Parts.{Parts}
use Rattle.group_protocol.specs.declared.fault.NodeFault.TheVariants as fault
use Rattle.group_protocol.specs.declared.start.StartRefused.{StartRefused}
use Rattle.group_node.specs.Starting.{IsFresh, StartsByPlan, StartsHonestly, StartsByLoad}
use Rattle.group_node.specs.States.{NodeState}

-- A start for which memory ran out before the load: the store is given back as it was.
abbrev pub LacksOutbox : {S : Type 0} → S → Result (NodeState S) (StartRefused S) → Type 0
LacksOutbox store result = result ≡ Err (record { fault = fault.Memory; store = store })

-- The result of a start over a store, which is that of `Node::start`. Or memory ran out for the
-- outbox, nothing was loaded, and the store is as it was.
pub record HasStarted {S : Type 0} (kind : StoreKind S) (me : Me) (program : Parts) (store : S)
    (result : Result (NodeState S) (StartRefused S)) : Type 0 where
  pub loaded : LacksOutbox store result ⊎ StartsByLoad kind me store result
  pub fresh : IfOk result (IsFresh program)
  pub from : kind.honest → StartsHonestly kind me store result
  pub plan : StartsByPlan kind store result
  pub others : IfErr result (λ e. IsAmong (fault.Memory ∷ fault.Store ∷ fault.BadRecord
      ∷ fault.StartsSpent ∷ []) e.fault)
