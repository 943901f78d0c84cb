-- A node's part in the protocol after a call, by its response.
use Rattle.std.specs.Prelude.{◌≡◌, ◌≢◌, ◌↔◌, ◌⊎◌, ◌+◌, ◌<◌, true, false, List, [], ◌∷◌, ◌++◌, length, None, Result, Err, OnOk, OnErr, IsErrOf}
use Rattle.base.specs.Calls.{FailsOnlyWith, Mut}
use Rattle.paxos_acceptor.specs.Stores.{StoreKind, FailsAsPlanned, CountsIf, IsOneOf}
use Rattle.paxos_acceptor.specs.declared.fault.AcceptorFault.{AcceptorFault}
use Rattle.paxos_acceptor.specs.declared.fault.AcceptorFault.TheVariants as acceptor
use Rattle.group_protocol.specs.declared.fault.NodeFault.{NodeFault}
use Rattle.group_protocol.specs.declared.fault.NodeFault.TheVariants.{Busy, Memory, Store, Stopped, OutboxFull, RoundsSpent, PlacesSpent, SerialSpent}
use Rattle.group_protocol.specs.declared.fault.NodeFault.TheVariants as fault
use Rattle.group_protocol.specs.declared.limits.TheConstants.{MOST_WAITING}
use Rattle.group_protocol.specs.Packets.{Datagram, datagrams_of, Queue}
use Rattle.group_protocol.specs.Known.{Known, Response, front, next_serial}
use Rattle.group_protocol.specs.States.{Protocol}
use Rattle.group_protocol.specs.ProposerResponses.{last_round}
use Rattle.paxos_msg.specs.Batches.{Record}
use Rattle.paxos_msg.specs.declared.limits.TheConstants.{LAST_ROUND, LAST_SERIAL, PLACES}

-- The node's fault for an acceptor's fault.
abbrev pub node_fault : AcceptorFault → NodeFault
node_fault acceptor.Memory = fault.Memory
node_fault acceptor.Store = fault.Store
node_fault acceptor.Closed = fault.Stopped
node_fault acceptor.BadRecord = fault.BadRecord
node_fault acceptor.StartsSpent = fault.StartsSpent

-- The node and the outbox after a call with this response.
-- At `Ok` the node is that of the response. Each packet that it sends is in the outbox after what
-- that held, in order, as the spelling of its message with the node as its sender. At `Err`, after
-- a failed save too, node and outbox are as they were. A fault of the device stops the node, and
-- nothing else does.
-- Source: Simple 2.5.
-- Allows: any refusal.
-- Forbids: a part of a response; a packet of a call that was refused.
pub record Does {S T : Type 0} (old new : Protocol S) (before now : List Datagram) (done : Response)
    (result : Result T NodeFault) : Type 0 where
  pub ok : OnOk result (new.known ≡ done.node)
  pub sends : OnOk result (now ≡ before ++ datagrams_of old.known.me done.sends)
  pub err : OnErr result (new.known ≡ old.known)
  pub unsent : OnErr result (now ≡ before)
  pub stops : (new.is_stopped ≡ true) ↔ ((old.is_stopped ≡ true) ⊎ IsErrOf result Store)

-- A node that knows `n` after a call that saves and sends nothing.
pub record Knows {S : Type 0} (old new : Protocol S) (n : Known) : Type 0 where
  pub known : new.known ≡ n
  pub store : new.store ≡ old.store
  pub stays : new.is_stopped ≡ old.is_stopped

-- The store after a call with this response.
-- At `Ok` an honest one has the response's record. After a fault of the device it has the old one
-- or the response's, and after any other refusal the old one. Such a fault is counted, and nothing
-- else is. If the response saves nothing, the store is as it was.
-- A call that saves is not `Ok` under a plan. A fault of the device uses the plan up, and nothing
-- else does. An honest store that fails at will fails only under a plan, and then has the record
-- that the plan says.
-- Of an honest store of a node that had not stopped, a restart may load the old record or the
-- response's, whatever the answer, and whenever a crash comes.
-- Source: Simple 2.5.
-- Allows: a save that failed and was made.
-- Forbids: a fault of the device in a call that saves nothing.
pub record Saves {S T : Type 0} (kind : StoreKind S) (old new : Protocol S) (done : Response)
    (result : Result T NodeFault) : Type 0 where
  pub saved : kind.honest → OnOk result ((kind.state new.store).stored ≡ done.node.kept)
  pub device : kind.honest → IsErrOf result Store
      → IsOneOf (kind.state new.store).stored old.known.kept done.node.kept
  pub unsaved : kind.honest → OnErr result (¬ IsErrOf result Store
      → (kind.state new.store).stored ≡ (kind.state old.store).stored)
  pub left : kind.honest → old.is_stopped ≡ false → (r : Record) → kind.may_load new.store r
      → IsOneOf r old.known.kept done.node.kept
  pub idle : done.saves ≡ None → new.store ≡ old.store
  pub never : done.saves ≡ None → ¬ IsErrOf result Store
  pub unplanned : done.saves ≢ None → OnOk result ((kind.state old.store).plan ≡ None)
  pub used_up : IsErrOf result Store → (kind.state new.store).plan ≡ None
  pub plan : ¬ IsErrOf result Store → (kind.state new.store).plan ≡ (kind.state old.store).plan
  pub planned : kind.honest → kind.fails_at_will → IsErrOf result Store
      → FailsAsPlanned (kind.state old.store).plan old.known.kept done.node.kept
      (kind.state new.store).stored
  pub cause : CountsIf (IsErrOf result Store) (kind.state old.store).faults
      (kind.state new.store).faults

-- The refusals of a call without an outbox: as stopped, exactly if a save has failed.
abbrev pub RefusesIfStopped : {S T : Type 0} → Protocol S → Result T NodeFault → Type 0
RefusesIfStopped old result = IsErrOf result Stopped ↔ (old.is_stopped ≡ true)

-- The refusals of a call with an outbox.
-- It is `Stopped` exactly if a save has failed. Otherwise it is `OutboxFull` exactly if the outbox
-- holds a packet, so that fewer than 64 places are free.
-- Forbids: a call that sends into an outbox with a packet.
pub record RefusesUnlessAdmitted {S T : Type 0} (old : Protocol S) (before : List Datagram)
    (result : Result T NodeFault) : Type 0 where
  pub stopped : RefusesIfStopped old result
  pub full : IsErrOf result OutboxFull ↔ ((old.is_stopped ≡ false) × (0 < length before))

-- The facts of a call that is admitted: no save has failed, and all 64 places of the outbox are
-- free.
pub record IsAdmitted {S : Type 0} (old : Protocol S) (before : List Datagram) : Type 0 where
  pub is_open : old.is_stopped ≡ false
  pub is_free : before ≡ []

-- The claim that a call fails only if memory runs out.
abbrev pub MayLackMemory : {T : Type 0} → Result T NodeFault → Type 0
MayLackMemory result = OnErr result (result ≡ Err Memory)

-- The claim that a call fails only if memory runs out or its save fails.
abbrev pub MayFailToSave : {T : Type 0} → Result T NodeFault → Type 0
MayFailToSave result = FailsOnlyWith (Memory ∷ Store ∷ []) result

-- The refusals of a byte that is typed at a node that works: 256 keys wait, or otherwise no serial
-- is left.
-- Forbids: one of them where there is a key to spare.
pub record IsTypingRefused {T : Type 0} (n : Known) (result : Result T NodeFault) : Type 0 where
  pub busy : IsErrOf result Busy ↔ (length n.waiting ≡ MOST_WAITING)
  pub spent : IsErrOf result SerialSpent
      ↔ ((length n.waiting < MOST_WAITING) × (next_serial n ≡ LAST_SERIAL + 1))

-- The refusals of a campaign that is taken: no round is left, or otherwise no place is.
-- A campaign that saves has a round.
pub record IsCampaignRefused {T : Type 0} (n : Known) (result : Result T NodeFault) : Type 0 where
  pub rounds : IsErrOf result RoundsSpent ↔ (last_round n ≡ LAST_ROUND)
  pub places : IsErrOf result PlacesSpent ↔ ((last_round n < LAST_ROUND) × (front n ≡ PLACES))
  pub spare : OnOk result (last_round n < LAST_ROUND)
  pub spare_saved : IsErrOf result Store → last_round n < LAST_ROUND

-- The node's part in the protocol, the outbox and the store after a call with this response, which
-- was admitted.
pub record DoesAndSaves {S T : Type 0} (kind : StoreKind S) (done : Response)
    (part : Mut (Protocol S)) (outbox : Mut Queue) (result : Result T NodeFault) : Type 0 where
  pub does : Does part.entry.now part.exit.now outbox.entry.now.packets outbox.exit.now.packets
      done result
  pub saves : Saves kind part.entry.now part.exit.now done result
