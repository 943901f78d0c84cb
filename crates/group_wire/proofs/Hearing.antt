-- Messages that a node hears one after the other.
use Rattle.std.proofs.Common.{rules, None, ◌≡◌, ◌≢◌, ◌+◌, ◌≤◌, ℕ, Bool, false, true, List, [], ◌∷◌, ◌++◌, length, Option, Some, Result, Ok, Err, refl, arith, append-nil, append_assoc}
use Rattle.std.proofs.lemmas.List.Elements.{All-append, All-cons, All-nil, filter_map-append}
use Rattle.std.proofs.lemmas.List.Sums.{sum_by-append}
use Rattle.std.proofs.lemmas.Grind.{common_steps}
use Rattle.paxos_msg.specs.declared.message.Group.{Group}
use Rattle.paxos_msg.specs.Batches.{Msg, Record}
use Rattle.paxos_acceptor.specs.Stores.{IsOneOf, StoreKind}
use Rattle.group_protocol.specs.declared.fault.NodeFault.{NodeFault}
use Rattle.group_protocol.specs.declared.fault.NodeFault.TheVariants.{Store}
use Rattle.group_protocol.specs.Calls.{RefusesUnlessAdmitted}
use Rattle.group_protocol.specs.Protocol.{on_message}
use Rattle.group_protocol.specs.States.{Protocol}
use Rattle.group_protocol.specs.Known.{Known}
use Rattle.group_protocol.specs.Packets.{Datagram, datagrams_of}
use Rattle.group_node.specs.States.{NodeState}
use Rattle.group_wire.specs.declared.answers.Received.{Received}
use Rattle.group_wire.specs.declared.answers.Received.TheVariants as answer
use Rattle.group_wire.specs.Traffic.{Receives, Traffic, grown, handed, letters_of}
use Rattle.group_wire.specs.Arrivals.{Arrival, Ending, Fate, Hears, GoesOn, Refuses, IsFateOf, Spells, heard_of, loss_of, lost_of, heard_message, received}
use Rattle.group_wire.specs.Turns.{FailsAtEnd, HearsSome, IsOne, IsWireTurn, TellsOfOne, answer_of}
use Rattle.group_wire.specs.Doings.{MayHaveFate, MayHaveFates, after_fate, after_heard, hearing, receives, ticked_if, ticking, transfers_of}
use Rattle.std.specs.List.{cons_option}
use Rattle.paxos_acceptor.specs.declared.me.Me.{Me}
use Rattle.group_wire.proofs.Carrying.{grown_twice, passed_then}

-- some messages, and then others
heard_then : (n : Known) (ms more : List Msg) → after_heard n (ms ++ more) ≡ after_heard (after_heard n ms) more
heard_then n [] more = refl
heard_then n (m ∷ ms) more = heard_then (on_message n m.sender m.body).node ms more

-- the messages of some arrivals, and then of others
heard_of_both : (came later : List Arrival) → heard_of (came ++ later) ≡ heard_of came ++ heard_of later
heard_of_both came later = search (rules, filter_map-append)

lost_of_both : (came later : List Arrival) → lost_of (came ++ later) ≡ lost_of came + lost_of later
lost_of_both came later = search (rules, sum_by-append)

-- a node after one datagram, and then others
pub after_came : (n : Known) (fate : Fate) (rest : List Msg)
    → after_heard n (cons_option (heard_message fate) rest) ≡ after_heard (after_fate n fate) rest
after_came n fate rest = grind arith

-- the fates of some datagrams, and then of others
fates_then : (n : Known) (came later : List Arrival) → MayHaveFates n came → MayHaveFates (after_heard n (heard_of came)) later
    → MayHaveFates n (came ++ later)
fates_then n [] later first second = second
fates_then n (a ∷ came) later (one, first) second =
    (one, fates_then (after_fate n a.fate) came later first (rw (after_came n a.fate (heard_of came)) at second))

-- the deeds at some datagrams, and then at others
receives_then : (me : Me) (n : Known) (came later : List Arrival)
    → receives me n (came ++ later) ≡ receives me n came ++ receives me (after_heard n (heard_of came)) later
receives_then me n [] later = refl
receives_then me n (a ∷ came) later =
    rw (receives_then me (after_fate n a.fate) came later, after_came n a.fate (heard_of came)) refl

-- hearing that goes on, and then more of it, as deeds
hearing_then : (me : Me) (n : Known) (came later : List Arrival) (ending : Ending)
    → hearing me n (came ++ later) ending ≡ hearing me n came GoesOn ++ hearing me (after_heard n (heard_of came)) later ending
hearing_then me n came later ending =
    grind (arith, receives_then me n came later, append-nil, append_assoc)

-- a node that has heard some, and then others
hears_then : {S : Type 0} {came later : List Arrival} {ending : Ending} {old mid new : NodeState S} {from via to : Option Traffic}
    → (old.protocol.is_stopped ≡ true → mid.protocol.is_stopped ≡ true)
    → HearsSome came GoesOn old mid from via
    → HearsSome later ending mid new via to
    → HearsSome (came ++ later) ending old new from to
hears_then {S} {came} {later} {ending} {old} stays first second =
    let n : Known = old.protocol.known in
    record {
      arrivals = record {
        fates =
            All-append (λ (a : Arrival). IsFateOf n.me.group a.bytes a.fate) came later first.arrivals.fates
            (rw first.me at second.arrivals.fates);
        needed = fates_then n came later first.arrivals.needed (rw first.known at second.arrivals.needed);
        last = rw first.me at second.arrivals.last;
        deaf = λ stopped.
            grind (arith, common_steps, heard_of_both, lost_of_both, first.arrivals.deaf stopped, second.arrivals.deaf (stays stopped));
      };
      known = grind (arith, common_steps, heard_then, heard_of_both);
      me = cc;
      traffic = grown_twice _ _ _ _ _ _ first.traffic second.traffic (rw (hearing_then n.me n, passed_then n.me) cc);
      progress = cc;
    }

-- ---- one receive

-- a save fails only of a node that had not stopped
pub was_open : {S T : Type 0} {old : Protocol S} {before : List Datagram} {result : Result T NodeFault}
    → RefusesUnlessAdmitted old before result → result ≡ Err Store → old.is_stopped ≡ false
was_open h failed = grind (arith, h.stopped)

-- what it leaves, over the node's own group
abbrev pub HearsThere : {S : Type 0} → StoreKind S → NodeState S → NodeState S
    → Option Traffic → Option Traffic → Result Received NodeFault → Type 0
HearsThere kind old new from to result = (came : List Arrival) × (ending : Ending)
    × HearsSome came ending old new from to
    × TellsOfOne result came ending × FailsAtEnd kind ending new result

-- a datagram comes, and no message is heard
pub hears_none : {S : Type 0} (kind : StoreKind S) {g : Group} {old new : NodeState S} (from to : Option Traffic)
    (bytes : List ℕ) (fate : Fate) (h : Received)
    → old.protocol.known.me.group ≡ g → IsFateOf g bytes fate → MayHaveFate old.protocol.known fate → heard_message fate ≡ None
    → TellsOfOne (Ok h) (record { bytes = bytes; fate = fate } ∷ []) GoesOn → (old.protocol.is_stopped ≡ true → loss_of fate ≡ 0)
    → new.protocol.known ≡ old.protocol.known → new.progress ≡ old.progress → to ≡ grown from (Receives (Some bytes) ∷ [])
    → HearsThere kind old new from to (Ok h)
hears_none kind from to bytes fate h group is may none tells without known progress traffic =
    (record { bytes = bytes; fate = fate } ∷ [], GoesOn, grind (arith, common_steps, All-cons, All-nil), tells, λ failed. absurd cc)

-- the node takes the message of the datagram
pub hears_one : {S : Type 0} (kind : StoreKind S) {g : Group} {old new : NodeState S} (from via to : Option Traffic)
    (bytes : List ℕ) (m : Msg) (before waits : List Datagram)
    → old.protocol.known.me.group ≡ g → Spells g bytes m → ¬ (old.protocol.is_stopped ≡ true)
    → new.protocol.known ≡ (on_message old.protocol.known m.sender m.body).node
    → (on_message old.protocol.known m.sender m.body).node.me ≡ old.protocol.known.me → new.progress ≡ old.progress → before ≡ []
    → waits ≡ before ++ datagrams_of old.protocol.known.me (on_message old.protocol.known m.sender m.body).sends
    → to ≡ grown via (handed (letters_of g.size waits)) → via ≡ grown from (Receives (Some bytes) ∷ [])
    → HearsThere kind old new from to (Ok answer.Message)
hears_one kind from via to bytes m before waits group spelled works known me progress empty sends traffic came =
    let a : Arrival = record { bytes = bytes; fate = Hears m } in
    (a ∷ [], GoesOn, grind (arith, common_steps, All-cons, All-nil), (a, refl, refl, refl), λ failed. absurd cc)

-- the node refuses the message of the datagram
pub refuses_one : {S : Type 0} (kind : StoreKind S) {g : Group} {old new : NodeState S} (from to : Option Traffic)
    (bytes : List ℕ) (m : Msg) (fault : NodeFault) (result : Result Received NodeFault)
    → old.protocol.known.me.group ≡ g → Spells g bytes m → new.protocol.known ≡ old.protocol.known → new.progress ≡ old.progress
    → to ≡ grown from (Receives (Some bytes) ∷ []) → result ≡ Err fault
    → (fault ≡ Store → (on_message old.protocol.known m.sender m.body).saves ≢ None)
    → (kind.honest → fault ≡ Store → IsOneOf (kind.state new.protocol.store).stored old.protocol.known.kept
    (on_message old.protocol.known m.sender m.body).node.kept)
    → (kind.honest → fault ≡ Store → (r : Record) → kind.may_load new.protocol.store r
    → IsOneOf r old.protocol.known.kept (on_message old.protocol.known m.sender m.body).node.kept)
    → HearsThere kind old new from to result
refuses_one kind from to bytes m fault result group spelled known progress traffic told saves device leaves = (
  [],
  Refuses bytes m,
  grind (arith, common_steps, All-nil),
  rw told (refl, tt),
  λ failed. rw known (saves (cc), λ is_honest. device is_honest (cc), λ is_honest. leaves is_honest (cc)),
)

-- ---- several receives

-- how many messages an answer calls lost
abbrev loss_in : Received → ℕ
loss_in answer.Lost = 1
loss_in other = 0

loss_is : (f : Fate) → loss_in (answer_of f) ≡ loss_of f
loss_is f = grind arith

-- a datagram that came is one arrival, and hearing goes on
one_came : (h : Received) (came : List Arrival) (ending : Ending) → h ≢ answer.Nothing → TellsOfOne (Ok h) came ending → IsOne came ending h
one_came h came ending some told = grind (arith, common_steps)

-- a datagram came at each receive, and then one more
pub hears_one_more : {S : Type 0} {F : List Arrival → Ending → Type 0} {count lost now : ℕ} {old mid new : NodeState S}
    {from via to : Option Traffic} (h : Received)
    → (old.protocol.is_stopped ≡ true → mid.protocol.is_stopped ≡ true)
    → (came : List Arrival) × HearsSome came GoesOn old mid from via
    × (length came ≡ count) × (lost_of came ≡ lost)
    → (later : List Arrival) × (ending : Ending) × HearsSome later ending mid new via to
    × TellsOfOne (Ok h) later ending × F later ending
    → h ≢ answer.Nothing → now ≡ lost + loss_in h
    → (all : List Arrival) × HearsSome all GoesOn old new from to
    × (length all ≡ count + 1) × (lost_of all ≡ now)
hears_one_more h stays (came, first, many, losses) (later, ending, second, told, _) some sum =
    let (a, one, goes_on, said) = one_came h later ending some told in
    let lossier : loss_in h ≡ lost_of later = grind (arith, common_steps, loss_is) in
    (came ++ later, rw goes_on at (hears_then stays first second), grind (arith, common_steps), omega (arith, lost_of_both came later))

-- one receive more than datagrams came, at most
pub few_received : (came : List Arrival) (ending : Ending) → length (received came ending) ≤ length came + 1
few_received came ending = grind (arith, common_steps)

-- a node that has heard some, and then no more
pub hears_no_more : {S : Type 0} {came later : List Arrival} {ending : Ending} {old mid new : NodeState S} {from via to : Option Traffic}
    → (old.protocol.is_stopped ≡ true → mid.protocol.is_stopped ≡ true)
    → HearsSome came GoesOn old mid from via → later ≡ [] → HearsSome later ending mid new via to
    → HearsSome came ending old new from to
hears_no_more {came = came} {later} stays first none second = rw (none, append-nil came) at (hears_then stays first second)

-- ---- a turn

-- the messages that are heard, and then a tick or none
pub turn_is : {S : Type 0} {came : List Arrival} {ending : Ending} {ticks : Bool} {old mid new : NodeState S}
    {from to : Option Traffic} (via : Option Traffic)
    → HearsSome came ending old mid from via → new.protocol.known ≡ (ticked_if ticks mid.protocol.known).node
    → to ≡ grown via (transfers_of mid.protocol.known.me (ticking mid.protocol.known.me ticks mid.protocol.known))
    → IsWireTurn came ending old new from to ticks
turn_is {old = old} via h known last = record {
  arrivals = h.arrivals;
  known = rw (← h.known) known;
  traffic = grown_twice _ _ _ _ _ _ h.traffic last (rw (passed_then old.protocol.known.me) cc);
}
