-- A turn of a node on its wire: the messages that it hears, a tick, and a run of its machine.
use Rattle.std.specs.Prelude.{◌≡◌, ◌≢◌, ◌⊎◌, ◌↔◌, ◌<◌, ◌≤◌, Bool, true, false, List, [], ◌∷◌, ◌++◌, All, length, Option, None, Some, Result, Ok, Err, IfErr, IfOk, IsErr, IsErrOf, OnErr, OnOk, ℕ, take}
use Rattle.paxos_msg.specs.Batches.{Msg, Record}
use Rattle.paxos_acceptor.specs.Answers.{place_after}
use Rattle.paxos_acceptor.specs.Stores.{CountsIf, IsOneOf, StoreKind}
use Rattle.group_protocol.specs.declared.fault.NodeFault.{NodeFault}
use Rattle.group_protocol.specs.declared.fault.NodeFault.TheVariants.{Stopped, Store}
use Rattle.group_protocol.specs.Known.{Known, front}
use Rattle.group_protocol.specs.Protocol.{on_message}
use Rattle.group_protocol.specs.Calls.{RefusesIfStopped}
use Rattle.group_node.specs.Output.{RunsOn, Progress}
use Rattle.group_node.specs.States.{NodeState, input}
use Rattle.group_wire.specs.declared.answers.Received.{Received}
use Rattle.group_wire.specs.declared.answers.Received.TheVariants as answer
use Rattle.group_wire.specs.declared.answers.Tick.{Tick}
use Rattle.group_wire.specs.declared.answers.Tick.TheVariants as tick
use Rattle.group_wire.specs.declared.answers.Turned.{Turned}
use Rattle.group_wire.specs.declared.rested.Rested.{Rested}
use Rattle.group_wire.specs.declared.rested.Rested.TheVariants.{Awaits, From, No}
use Rattle.group_wire.specs.declared.limits.TheConstants.{MOST_RECEIVES, TURN_STEPS}
use Rattle.group_wire.specs.Arrivals.{Arrival, Ending, EndsAt, Fate, GoesOn, Hears, IsFateOf, IsSpelledEnding, IsUnheard, Loses, NoMessage, NoneCame, TooLong, heard_of, lost_of, received}
use Rattle.group_wire.specs.Doings.{MayHaveFates, after_heard, hearing, ticked_if, ticking, transfers_of}
use Rattle.group_wire.specs.Traffic.{Traffic, grown}
use Rattle.pcode_machine.specs.Runs.{out}

-- The bytes that were released: the first ones of the output so far on the input `x`.
abbrev pub released_of : List ℕ → Progress → List ℕ
released_of x q = take q.released (out q.program x q.steps)

-- The bytes that a node has released, on its learned input.
abbrev pub released_by : {S : Type 0} → NodeState S → List ℕ
released_by n = released_of (input n.protocol.known) n.progress

-- Two states of a node in which it has released the same bytes.
abbrev pub SameReleased : {S : Type 0} → NodeState S → NodeState S → Type 0
SameReleased old new = released_by new ≡ released_by old

-- The refusals of a receive and of a turn: the node has stopped, or a save fails now.
abbrev pub IsTurnFault : NodeFault → Type 0
IsTurnFault e = (e ≡ Stopped) ⊎ (e ≡ Store)

-- ---- what hearing and a turn leave

-- Datagrams that come to a node, and how hearing ends. Their fates are those that bytes have in its
-- group, and no message is lost for which the node needs no memory. A node that has stopped hears
-- and loses nothing.
pub record HasArrivals {S : Type 0} (n : NodeState S) (came : List Arrival) (ending : Ending)
    : Type 0 where
  pub fates : All (λ a. IsFateOf n.protocol.known.me.group a.bytes a.fate) came
  pub needed : MayHaveFates n.protocol.known came
  pub last : IsSpelledEnding n.protocol.known.me.group ending
  pub deaf : n.protocol.is_stopped ≡ true → IsUnheard came

-- A node and its wire once these datagrams came and hearing ended so.
pub record HearsSome {S : Type 0} (came : List Arrival) (ending : Ending)
    (old new : NodeState S) (from to : Option Traffic) : Type 0 where
  pub arrivals : HasArrivals old came ending
  pub known : new.protocol.known ≡ after_heard old.protocol.known (heard_of came)
  pub me : new.protocol.known.me ≡ old.protocol.known.me
  pub traffic : to ≡ grown from (transfers_of old.protocol.known.me
      (hearing old.protocol.known.me old.protocol.known came ending))
  pub progress : new.progress ≡ old.progress

-- A node and its wire once these datagrams came and the node then ticked, or did not.
-- The node heard the messages that datagrams spell, in order, but for those that were lost. A
-- datagram was dropped only if it has more than 1,400 bytes or spells no message of the group. What
-- these calls and the tick sent went to the wire, in order, once for each node that it is for.
-- Forbids: a tick that the answer does not report.
pub record IsWireTurn {S : Type 0} (came : List Arrival) (ending : Ending)
    (old new : NodeState S) (from to : Option Traffic) (ticks : Bool) : Type 0 where
  pub arrivals : HasArrivals old came ending
  pub known :
      new.protocol.known ≡ (ticked_if ticks (after_heard old.protocol.known (heard_of came))).node
  pub traffic : to ≡ grown from (transfers_of old.protocol.known.me
      (hearing old.protocol.known.me old.protocol.known came ending
      ++ ticking old.protocol.known.me ticks
      (after_heard old.protocol.known (heard_of came))))

-- ---- when a turn ticks

-- The node knows of nothing that is under way: none of its own keys waits, and the last place at
-- which it has voted, if there is one, is the one below its known front.
-- Allows: a place that others have learned, of which it has not heard.
abbrev pub IsCaughtUp : Known → Type 0
IsCaughtUp n = (n.waiting ≡ []) × (place_after n.kept.votes ≡ front n)

-- Whether the tick of a turn is due at a node that knows this, once it has heard what came. After a
-- rest it is not if a place was learned since the rest began, and the node has caught up: then it
-- knows of nothing that its Ask could bring. If answers to what it would repeat are due, it is not
-- if a place was learned and no key waits: then places are being learned without it.
-- Allows: a tick for which memory runs out.
-- Forbids: a tick left out while a key waits.
abbrev pub IsTickDue : Rested → Known → Type 0
IsTickDue No n = Unit {0}
IsTickDue (From rested) n = ¬ ((rested < front n) × IsCaughtUp n)
IsTickDue (Awaits rested) n = ¬ ((rested < front n) × (n.waiting ≡ []))

-- ---- what the answers say

-- True where a tick was made.
abbrev pub is_made : Tick → Bool
is_made tick.Made = true
is_made tick.Lost = false
is_made tick.NotDue = false

-- True where the answer of a turn says that the node ticked.
abbrev pub has_ticked : Result Turned NodeFault → Bool
has_ticked (Ok done) = is_made done.tick
has_ticked (Err e) = false

-- The answer for a datagram with this fate.
abbrev pub answer_of : Fate → Received
answer_of (Hears m) = answer.Message
answer_of (Loses m) = answer.Lost
answer_of TooLong = answer.Dropped
answer_of NoMessage = answer.Dropped

-- The one datagram that came, and its answer.
abbrev pub IsOne : List Arrival → Ending → Received → Type 0
IsOne came ending heard =
    (a : Arrival) × (came ≡ a ∷ []) × (ending ≡ GoesOn) × (heard ≡ answer_of a.fate)

-- The answer of one receive: nothing came, the fate of a datagram, or a refusal of its message.
abbrev pub TellsOfOne : Result Received NodeFault → List Arrival → Ending → Type 0
TellsOfOne (Ok answer.Nothing) came ending = (came ≡ []) × (ending ≡ NoneCame)
TellsOfOne (Ok answer.Dropped) came ending = IsOne came ending answer.Dropped
TellsOfOne (Ok answer.Lost) came ending = IsOne came ending answer.Lost
TellsOfOne (Ok answer.Message) came ending = IsOne came ending answer.Message
TellsOfOne (Err e) came ending = (came ≡ []) × EndsAt ending (λ _. Unit {0})

-- A node whose save has failed at this message, the response to which saves. An honest store has
-- the node's record, or that of the response, and a restart may load one of the two.
-- Forbids: a mixture of both.
abbrev pub HasFailedAt : {S : Type 0} → StoreKind S → NodeState S → Msg → Type 0
HasFailedAt kind n m =
    ((on_message n.protocol.known m.sender m.body).saves ≢ None)
    × (kind.honest → IsOneOf (kind.state n.protocol.store).stored n.protocol.known.kept
    (on_message n.protocol.known m.sender m.body).node.kept)
    × (kind.honest → (r : Record) → kind.may_load n.protocol.store r
    → IsOneOf r n.protocol.known.kept (on_message n.protocol.known m.sender m.body).node.kept)

-- A failed save comes only at the message at which hearing ended.
abbrev pub FailsAtEnd : {S T : Type 0} → StoreKind S → Ending → NodeState S
    → Result T NodeFault → Type 0
FailsAtEnd kind ending new result =
    IsErrOf result Store → EndsAt ending (HasFailedAt kind new)

-- The refusals of a tick or a run: as stopped alone, and exactly if a save has failed before.
pub record IsRefusedIfStopped {S T : Type 0} (old : NodeState S)
    (result : Result T NodeFault) : Type 0 where
  pub stopped : RefusesIfStopped old.protocol result
  pub others : IfErr result (λ e. e ≡ Stopped)

-- The receives of a turn, at most 64.
-- At `Ok` 64 datagrams came, or the last receive gave nothing. At `Store` the save failed at the
-- message of the last datagram that came.
pub record HearsOut {S T : Type 0} (kind : StoreKind S) (came : List Arrival)
    (ending : Ending) (new : NodeState S) (result : Result T NodeFault) : Type 0 where
  pub few : length (received came ending) ≤ MOST_RECEIVES
  pub ended : OnOk result
      ((ending ≡ NoneCame) ⊎ ((ending ≡ GoesOn) × (length came ≡ MOST_RECEIVES)))
  pub fault : FailsAtEnd kind ending new result

-- A refusal of hearing: as stopped, or since a save failed.
-- A failed save stops the node and is counted.
pub record IsHearingRefused {S T : Type 0} (kind : StoreKind S) (old new : NodeState S)
    (result : Result T NodeFault) : Type 0 where
  pub others : IfErr result IsTurnFault
  pub stopped : IsErrOf result Stopped → old.protocol.is_stopped ≡ true
  pub was_open : IsErrOf result Store → old.protocol.is_stopped ≡ false
  pub stops :
      (new.protocol.is_stopped ≡ true) ↔ ((old.protocol.is_stopped ≡ true) ⊎ IsErrOf result Store)
  pub cause : CountsIf (IsErrOf result Store)
      (kind.state old.protocol.store).faults (kind.state new.protocol.store).faults

-- ---- the calls

-- A node and its wire after one receive, with the answer.
-- The answer says that nothing came, or that a datagram was dropped, lost or heard. The receive is
-- refused only at a datagram that spells a message. Then the node knows what it knew.
pub record HasHeard {S : Type 0} (kind : StoreKind S)
    (old new : NodeState S) (from to : Option Traffic) (result : Result Received NodeFault)
    : Type 0 where
  pub came : List Arrival
  pub ending : Ending
  pub hears : HearsSome came ending old new from to
  pub tells : TellsOfOne result came ending
  pub fault : FailsAtEnd kind ending new result
  pub refused : IsHearingRefused kind old new result

-- A node and its wire after a turn, with the answer.
-- At `Ok` the machine has run for at most 1,000 steps on the learned input after the tick, and the
-- answer says why the run ended, what became of the tick, and how many messages were lost. The tick
-- is left out exactly if it is not due, or since memory ran out. After a refusal there was no tick
-- and no step. The turn is `Stopped` exactly if a save had failed before, and otherwise refused
-- only as `Store`. After a refusal the node is stopped, after `Ok` it is not. One more fault is
-- counted exactly at `Store`.
-- Forbids: a tick that is not due.
pub record HasTurned {S : Type 0} (kind : StoreKind S) (rested : Rested)
    (old new : NodeState S) (from to : Option Traffic) (result : Result Turned NodeFault)
    : Type 0 where
  pub came : List Arrival
  pub ending : Ending
  pub plays : IsWireTurn came ending old new from to (has_ticked result)
  pub hears : HearsOut kind came ending new result
  pub due : IfOk result (λ done. (done.tick ≢ tick.NotDue)
      ↔ IsTickDue rested (after_heard old.protocol.known (heard_of came)))
  pub lost : IfOk result (λ done. done.lost ≡ lost_of came)
  pub me : new.protocol.known.me ≡ old.protocol.known.me
  pub runs : IfOk result (λ done.
      RunsOn (input new.protocol.known) TURN_STEPS old.progress new.progress done.ran)
  pub rest : OnErr result (new.progress ≡ old.progress)
  pub others : IfErr result IsTurnFault
  pub stopped : RefusesIfStopped old.protocol result
  pub stops : (new.protocol.is_stopped ≡ true) ↔ IsErr result
  pub cause : CountsIf (IsErrOf result Store)
      (kind.state old.protocol.store).faults (kind.state new.protocol.store).faults
