use Rattle.std.proofs.Common.{◌≡◌, ◌≢◌, ◌∙◌, ◌==◌, ℕ, ◌+◌, Bool, true, false, List, [], ◌∷◌, length, Option, Some, None, refl, sym, ap, arith, if◌then◌else◌}
use Rattle.pcode_file.specs.Parts.{Parts}
use Rattle.paxos_msg.specs.declared.limits.TheConstants.{LAST_SERIAL, LAST_START}
use Rattle.paxos_msg.specs.declared.value.Value.{Value}
use Rattle.paxos_msg.specs.Batches.{Record}
use Rattle.paxos_msg.specs.Keys.{keys_from}
use Rattle.paxos_acceptor.specs.declared.me.Me.{Me}
use Rattle.group_protocol.specs.declared.fault.NodeFault.{NodeFault}
use Rattle.group_protocol.specs.declared.fault.NodeFault.TheVariants.{Busy, OutboxFull, PlacesSpent, RoundsSpent, SerialSpent, StartsSpent}
use Rattle.group_protocol.specs.declared.limits.TheConstants.{MOST_WAITING}
use Rattle.group_protocol.specs.Known.{Known, Response, next_serial}
use Rattle.group_protocol.specs.WaitingKeys.{waiting_keys}
use Rattle.group_node.specs.Deeds as deed
use Rattle.group_node.specs.Deeds.{Deed}
use Rattle.group_node.specs.NodeCalls.{Makes, NodeCall, Refuses, call_of_campaign, call_of_press, call_of_start}
use Rattle.group_world.specs.declared.event.Done.TheVariants.{Refused}
use Rattle.group_world.specs.Deeds.{DoesDeed, Left}
use Rattle.group_world.specs.Member.{Member, call_outcome, done_of, failing, save_outcome}
use Rattle.group_progress.proofs.Going.{lt_apart, stay, then}
use Rattle.group_progress.proofs.laws.no_node_stays_full.Goals as goal

-- ---- calls

made_is_no_refusal : (made : Response) (keys : List Value) (f : NodeFault) → Makes made keys ≢ Refuses f
made_is_no_refusal made keys f = λ same. cc

neither : (b : Bool) (x y z : NodeCall) → x ≢ z → y ≢ z → (if b then x else y) ≢ z
neither true x y z first second = first
neither false x y z first second = second

-- ---- typed keys

none_typed : (node start first : ℕ) (bytes : List ℕ) → keys_from node start first bytes ≡ [] → length bytes ≡ 0
none_typed node start first [] e = refl
none_typed node start first (byte ∷ bytes) e = absurd cc

serial_is_not_busy : Refuses SerialSpent ≢ Refuses Busy
serial_is_not_busy = λ same. cc

-- where no key waits there is room
has_room : (n : Known) → waiting_keys n ≡ [] → (byte : ℕ) → call_of_press n byte ≢ Refuses Busy
has_room n none byte =
    let empty : length n.waiting ≡ 0 = none_typed n.me.node n.kept.starts n.first n.waiting none in
    let few : (length n.waiting == MOST_WAITING) ≡ false = lt_apart (length n.waiting) MOST_WAITING (omega arith) in
    rw few (neither (next_serial n == LAST_SERIAL + 1) _ _ (Refuses Busy) serial_is_not_busy (made_is_no_refusal _ _ Busy))

pub returns-clause-keys : goal.returns-clause-keys
returns-clause-keys c = λ p group list w members size session leads most left.
    (then) (c.no_world_is_stuck.ensures p group list w members size session leads most left) (λ v read.
    stay (λ i node own.
    let h = read i node own in
    record { node = h.has.node; running = h.has.running; up = h.has.up; room = has_room h.has.running.known h.none }))

-- ---- the outbox

-- a call that is not refused for a full outbox is not answered so
answers : (plan : Option Bool) (kept : Record) (call : NodeCall) → call ≢ Refuses OutboxFull → done_of (call_outcome plan kept call) ≢
    Refused OutboxFull
answers plan kept (Refuses f) other = λ same. let is : f ≡ OutboxFull = cc in other (ap Refuses is)
answers plan kept (Makes made keys) other = by (failing made.saves plan) where
  by : (fails : Option Bool) → done_of (save_outcome kept made keys fails) ≢ Refused OutboxFull
  by None = λ same. cc
  by (Some is_changed) = λ same. cc

no_starts : Refuses StartsSpent ≢ Refuses OutboxFull
no_starts = λ same. cc

no_serials : Refuses SerialSpent ≢ Refuses OutboxFull
no_serials = λ same. cc

no_keys : Refuses Busy ≢ Refuses OutboxFull
no_keys = λ same. cc

no_rounds : Refuses RoundsSpent ≢ Refuses OutboxFull
no_rounds = λ same. cc

no_places : Refuses PlacesSpent ≢ Refuses OutboxFull
no_places = λ same. cc

starts : (me : Me) (r : Record) → call_of_start me r ≢ Refuses OutboxFull
starts me r = neither (r.starts == LAST_START) _ _ _ no_starts (made_is_no_refusal _ _ OutboxFull)

presses : (n : Known) (byte : ℕ) → call_of_press n byte ≢ Refuses OutboxFull
presses n byte = neither (length n.waiting == MOST_WAITING) _ _ _ no_keys
    (neither (next_serial n == LAST_SERIAL + 1) _ _ _ no_serials (made_is_no_refusal _ _ OutboxFull))

campaigns : (n : Known) → call_of_campaign n ≢ Refuses OutboxFull
campaigns n = neither _ _ _ _ (neither _ _ _ _ no_places (made_is_no_refusal _ _ OutboxFull)) no_rounds

by_deed : (p : Parts) (me : Me) (m : Member) (plan : Option Bool) (d : Deed) (left : Left) → DoesDeed p me m plan d left → left.answer
    ≢ Refused OutboxFull
by_deed p me m plan deed.Idle left h = λ same. cc
by_deed p me m plan (deed.Start r) left (down, is, ends) = λ same. answers plan m.kept (call_of_start me r) (starts me r)
    (sym ends.answer ∙ same)
by_deed p me m plan (deed.Hear message) left (q, up, ends) = λ same. answers plan m.kept (Makes _ _)
    (made_is_no_refusal _ _ OutboxFull) (sym ends.answer ∙ same)
by_deed p me m plan (deed.Press byte) left (q, up, low, ends) = λ same. answers plan m.kept (call_of_press q.known byte)
    (presses q.known byte) (sym ends.answer ∙ same)
by_deed p me m plan deed.Campaign left (q, up, ends) = λ same. answers plan m.kept (call_of_campaign q.known) (campaigns q.known)
    (sym ends.answer ∙ same)
by_deed p me m plan deed.Tick left (q, up, ends) = λ same. answers plan m.kept (Makes _ _) (made_is_no_refusal _ _ OutboxFull)
    (sym ends.answer ∙ same)
by_deed p me m plan (deed.Run steps) left (q, up, ran, is) = λ same. cc
by_deed p me m plan deed.Release left (q, up, is) = λ same. cc
by_deed p me m plan deed.Crash left (q, up, is) = λ same. cc

pub returns-clause-outbox : goal.returns-clause-outbox
returns-clause-outbox c = by_deed
