-- The deeds of a node on its wire, each with what passed over the wire in it, and in which order.
use Rattle.std.specs.Prelude.{◌≡◌, ◌≢◌, ℕ, ◌+◌, ◌<◌, Bool, if◌then◌else◌, List, [], ◌∷◌, ◌++◌, flat_map, map, Option, Some, None, Result, Ok, Err, slice_get}
use Rattle.paxos_msg.specs.declared.value.Value.{Value}
use Rattle.paxos_msg.specs.Batches.{Msg, Record}
use Rattle.paxos_acceptor.specs.declared.me.Me.{Me}
use Rattle.paxos_acceptor.specs.Stores.{IsOneOf, StoreKind}
use Rattle.group_protocol.specs.declared.fault.NodeFault.{NodeFault}
use Rattle.group_protocol.specs.declared.fault.NodeFault.TheVariants as fault
use Rattle.group_node.specs.declared.player.Ran.{Ran}
use Rattle.group_protocol.specs.Known.{Known, Response, new_key, on_typed, quiet}
use Rattle.group_node.specs.Deeds.{Deed, Idle, Start, Hear, Press, Campaign, Tick, Run, Release, Crash}
use Rattle.group_node.specs.NodeCalls as call
use Rattle.group_node.specs.NodeCalls.{Makes, NodeCall, Running, call_of_campaign, call_of_press, running, unreleased_by}
use Rattle.group_node.specs.Output.{IsReplay, RunsOn}
use Rattle.group_protocol.specs.Packets.{Datagram, datagrams_of}
use Rattle.group_protocol.specs.Protocol.{NeedsMemory, on_message}
use Rattle.group_protocol.specs.ProposerResponses.{on_campaign}
use Rattle.group_node.specs.States.{NodeState, input}
use Rattle.group_protocol.specs.Tick.{on_tick}
use Rattle.group_wire.specs.Arrivals.{Arrival, Ending, Fate, GoesOn, Hears, Loses, NoMessage, NoneCame, Refuses, Spells, TooLong}
use Rattle.group_wire.specs.Traffic.{Receives, Traffic, grown, handed, letters_of}

-- ---- deeds

-- A deed with what a receive gave for it, the datagrams that it sent, and the keys that were typed.
pub record Doing : Type 0 where
  pub deed : Deed
  pub given : List (Option (List ℕ))
  pub sent : List Datagram
  pub typed : List Value

-- What passes over the wire of a node in a deed: it receives first, and sends then.
-- Forbids: an answer before its message.
abbrev pub transfers_in : Me → Doing → Traffic
transfers_in me d = map (λ g. Receives g) d.given ++ handed (letters_of me.group.size d.sent)

-- What passes over it in several deeds, in order.
abbrev pub transfers_of : Me → List Doing → Traffic
transfers_of me doings = flat_map (transfers_in me) doings

-- ---- the deeds of a turn

-- A node after it has heard these messages, one after the other.
abbrev pub after_heard : Known → List Msg → Known
after_heard n [] = n
after_heard n (m ∷ ms) = after_heard (on_message n m.sender m.body).node ms

-- A tick, or nothing.
abbrev pub ticked_if : Bool → Known → Response
ticked_if ticks n = if ticks then on_tick n else quiet n

-- A node after a datagram with this fate.
abbrev pub after_fate : Known → Fate → Known
after_fate n (Hears m) = (on_message n m.sender m.body).node
after_fate n (Loses m) = n
after_fate n TooLong = n
after_fate n NoMessage = n

-- A fate that a datagram may have at the node `n`: a message is lost only where the node may need
-- memory for it.
-- Forbids: a Refused that is lost; a message that is lost and that the node would ignore.
abbrev pub MayHaveFate : Known → Fate → Type 0
MayHaveFate n (Hears m) = Unit {0}
MayHaveFate n (Loses m) = NeedsMemory n m.sender m.body
MayHaveFate n TooLong = Unit {0}
MayHaveFate n NoMessage = Unit {0}

-- Datagrams that came one after the other, each with a fate that it may have at the node as it was
-- then.
abbrev pub MayHaveFates : Known → List Arrival → Type 0
MayHaveFates n [] = Unit {0}
MayHaveFates n (a ∷ came) = MayHaveFate n a.fate × MayHaveFates (after_fate n a.fate) came

-- The deed at a datagram with this fate.
abbrev pub deed_of : Fate → Deed
deed_of (Hears m) = Hear m
deed_of (Loses m) = Idle
deed_of TooLong = Idle
deed_of NoMessage = Idle

-- What a node sends at a datagram with this fate.
abbrev pub sent_of : Me → Known → Fate → List Datagram
sent_of me n (Hears m) = datagrams_of me (on_message n m.sender m.body).sends
sent_of me n (Loses m) = []
sent_of me n TooLong = []
sent_of me n NoMessage = []

-- A receive of a datagram, and what the node does at it.
abbrev pub receiving : Me → Known → Arrival → Doing
receiving me n a =
    record {
      deed = deed_of a.fate;
      given = Some a.bytes ∷ [];
      sent = sent_of me n a.fate;
      typed = [];
    }

-- Receives of these datagrams.
abbrev pub receives : Me → Known → List Arrival → List Doing
receives me n [] = []
receives me n (a ∷ came) = receiving me n a ∷ receives me (after_fate n a.fate) came

-- A receive at which nothing is done.
abbrev pub idle : Option (List ℕ) → Doing
idle given = record { deed = Idle; given = given ∷ []; sent = []; typed = [] }

-- The last receive, if the arrivals do not have it.
abbrev pub last_receiving : Ending → List Doing
last_receiving GoesOn = []
last_receiving NoneCame = idle None ∷ []
last_receiving (Refuses bytes m) =
    (record { deed = Hear m; given = Some bytes ∷ []; sent = []; typed = [] }) ∷ []

-- All receives, in order.
abbrev pub hearing : Me → Known → List Arrival → Ending → List Doing
hearing me n came ending = receives me n came ++ last_receiving ending

-- A tick, or none.
abbrev pub ticking : Me → Bool → Known → List Doing
ticking me ticks n =
    if ticks
    then
    (record { deed = Tick; given = []; sent = datagrams_of me (on_tick n).sends; typed = [] }) ∷ []
    else []

-- These bytes as they are typed.
abbrev pub pressing : Known → List ℕ → List Doing
pressing n [] = []
pressing n (byte ∷ bytes) =
    (record { deed = Press byte; given = []; sent = []; typed = new_key n byte ∷ [] })
    ∷ pressing (on_typed n byte).node bytes

-- ---- what deeds do

-- The deed is a call that a node makes, after which it is `v`.
abbrev pub MakesOnWire : Me → Running → NodeCall → Doing → Running → Type 0
MakesOnWire me w (call.Refuses f) d v = ⊥
MakesOnWire me w (Makes done keys) d v =
    (v ≡ record w { known = done.node }) × (d.sent ≡ datagrams_of me done.sends) × (d.typed ≡ keys)

-- A deed at which nothing is sent or typed.
abbrev pub SendsNothing : Doing → Type 0
SendsNothing d = (d.sent ≡ []) × (d.typed ≡ [])

-- A deed of the node `w` leaves `v`. A start is not one: there is no node before it. A node that
-- crashes leaves none.
-- Forbids: a deed that hears a message which the receive did not give.
abbrev pub DoesOnWire : Me → Running → Deed → Doing → Running → Type 0
DoesOnWire me w Idle d v = (v ≡ w) × SendsNothing d
DoesOnWire me w (Start r) d v = ⊥
DoesOnWire me w (Hear m) d v =
    (bytes : List ℕ) × Spells me.group bytes m × (d.given ≡ Some bytes ∷ [])
    × MakesOnWire me w (Makes (on_message w.known m.sender m.body) []) d v
DoesOnWire me w (Press byte) d v =
    (byte < 256) × (d.given ≡ []) × MakesOnWire me w (call_of_press w.known byte) d v
DoesOnWire me w Campaign d v =
    (d.given ≡ []) × MakesOnWire me w (call_of_campaign w.known) d v
DoesOnWire me w Tick d v =
    (d.given ≡ []) × MakesOnWire me w (Makes (on_tick w.known) []) d v
DoesOnWire me w (Run steps) d v =
    (ran : Ran) × (v.known ≡ w.known) × RunsOn (input w.known) steps w.progress v.progress ran
    × IsReplay (input w.known) v.progress × (d.given ≡ []) × SendsNothing d
DoesOnWire me w Release d v =
    (byte : ℕ) × (slice_get (unreleased_by w) 0 ≡ Some byte)
    × (v ≡ record w { progress = record w.progress { released = w.progress.released + 1 } })
    × (d.given ≡ []) × SendsNothing d
DoesOnWire me w Crash d v = ⊥

-- The prompt that a deed follows: to take a typed byte, to campaign, or to run the machine. Every
-- other deed has none.
abbrev pub prompt_in : Deed → List Deed
prompt_in (Press byte) = Press byte ∷ []
prompt_in Campaign = Campaign ∷ []
prompt_in (Run steps) = Run steps ∷ []
prompt_in _ = []

-- What it is prompted to do in several deeds, in order.
abbrev pub prompts_of : List Doing → List Deed
prompts_of doings = flat_map (λ d. prompt_in d.deed) doings

-- The deeds lead from the node `w` to `v`.
abbrev pub DoesAll : Me → Running → List Doing → Running → Type 0
DoesAll me w [] v = v ≡ w
DoesAll me w (d ∷ doings) v =
    (mid : Running) × DoesOnWire me w d.deed d mid × DoesAll me mid doings v

-- A call that is not refused.
abbrev pub IsMade : NodeCall → Type 0
IsMade (call.Refuses f) = ⊥
IsMade (Makes done keys) = Unit {0}

-- A deed of the node `w` at which its save fails: a campaign, or a message at which it saves. Then
-- nothing is sent, and the node ends.
abbrev pub FailsDeed : Me → Running → Deed → Doing → Type 0
FailsDeed me w (Hear m) d =
    (bytes : List ℕ) × Spells me.group bytes m × (d.given ≡ Some bytes ∷ []) × SendsNothing d
    × ((on_message w.known m.sender m.body).saves ≢ None)
FailsDeed me w Campaign d = IsMade (call_of_campaign w.known) × (d.given ≡ []) × SendsNothing d
FailsDeed me w _ d = ⊥

-- The record of a node that is up after a deed: only a message or a campaign may change it.
abbrev pub record_after : Known → Deed → Record
record_after n (Hear m) = (on_message n m.sender m.body).node.kept
record_after n Campaign = (on_campaign n).node.kept
record_after n _ = n.kept

-- ---- nodes and their wires

-- The deeds lead from a node to the node `new`, and what passed over its wire is what passes in
-- them. No save of it has failed in them.
pub record HasDone {S : Type 0} (old new : NodeState S) (from to : Option Traffic)
    (doings : List Doing) : Type 0 where
  pub me : new.protocol.known.me ≡ old.protocol.known.me
  pub does : DoesAll old.protocol.known.me (running old) doings (running new)
  pub traffic : to ≡ grown from (transfers_of old.protocol.known.me doings)
  pub stays : new.protocol.is_stopped ≡ old.protocol.is_stopped

-- The same, and then a deed at which the node's save fails. Of an honest store a restart may load
-- the node's record, or the one that the deed was to save, and no other.
pub record HasFailed {S : Type 0} (kind : StoreKind S) (old new : NodeState S)
    (from to : Option Traffic) (doings : List Doing) (last : Doing) : Type 0 where
  pub me : new.protocol.known.me ≡ old.protocol.known.me
  pub does : DoesAll old.protocol.known.me (running old) doings (running new)
  pub fails : FailsDeed old.protocol.known.me (running new) last.deed last
  pub traffic : to ≡ grown from (transfers_of old.protocol.known.me (doings ++ last ∷ []))
  pub leaves : kind.honest → (r : Record) → kind.may_load new.protocol.store r
      → IsOneOf r new.protocol.known.kept (record_after new.protocol.known last.deed)

-- Some deeds with these prompts, and all that passed over the wire is what passes in them.
-- Forbids: a press, a campaign or a run that is not a prompt.
abbrev pub HasActed : {S : Type 0} → NodeState S → NodeState S → Option Traffic → Option Traffic
    → List Deed → Type 0
HasActed old new from to prompts =
    (doings : List Doing) × HasDone old new from to doings × (prompts_of doings ≡ prompts)

-- Some deeds, and then one at which the save fails. All of them have these prompts.
abbrev pub Fails : {S : Type 0} → StoreKind S → NodeState S → NodeState S → Option Traffic
    → Option Traffic → List Deed → Type 0
Fails kind old new from to prompts =
    (doings : List Doing) × (last : Doing) × HasFailed kind old new from to doings last
    × (prompts_of (doings ++ last ∷ []) ≡ prompts)

-- What a call did that was refused with this fault; these are the prompts at a save that fails. Of
-- a node that had stopped before, nothing is said.
-- Allows: any other refusal that does nothing at a prompt.
abbrev pub RefusesBy : {S : Type 0} → StoreKind S → NodeState S → NodeState S → Option Traffic
    → Option Traffic → List Deed → NodeFault → Type 0
RefusesBy kind old new from to failing fault.Store = Fails kind old new from to failing
RefusesBy kind old new from to failing fault.Stopped = Unit {0}
RefusesBy kind old new from to failing _ = HasActed old new from to []

-- What a call did, by its answer: these prompts at `Ok`, and those at a save that fails.
abbrev pub ActsBy : {S T : Type 0} → StoreKind S → NodeState S → NodeState S → Option Traffic
    → Option Traffic → List Deed → List Deed → Result T NodeFault → Type 0
ActsBy kind old new from to prompts failing (Ok x) = HasActed old new from to prompts
ActsBy kind old new from to prompts failing (Err e) = RefusesBy kind old new from to failing e

-- What typing did: the bytes of `before` up to `after` were typed, each once and in order, whatever
-- had passed over the wire.
abbrev pub ActsTyping : {S : Type 0} → NodeState S → NodeState S → List ℕ → List ℕ → Type 0
ActsTyping old new before after =
    (typed : List ℕ) × (before ≡ typed ++ after)
    × ((passed : Option Traffic) → HasActed old new passed passed (map Press typed))
