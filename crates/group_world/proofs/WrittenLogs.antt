-- Logs that are written down by hand with their events, entry by entry: what a node does that has
-- heard nothing, what each entry leaves, and that the messages are read again which nodes have sent.
use Rattle.std.proofs.Common.{◌≡◌, ◌∙◌, ℕ, ◌+◌, ◌<◌, List, [], ◌∷◌, map, slice_get, take, None, Some, refl, ap, arith}
use Rattle.std.proofs.lemmas.List.Elements.{All-from_recursion, All-take, recursion_from_All}
use Rattle.std.specs.List.{AllByRecursion, cons_option}
use Rattle.std.proofs.lemmas.Bool.Decides.{nat_tests}
use Rattle.pcode_file.specs.Parts.{Parts}
use Rattle.paxos_msg.specs.declared.message.Group.{Group}
use Rattle.paxos_msg.specs.declared.value.Value.{Value}
use Rattle.paxos_msg.specs.Batches.{Body, Msg, Record}
use Rattle.paxos_msg.specs.Bodies.{IsBody}
use Rattle.paxos_msg.specs.Fits.{IsGroup, IsNode}
use Rattle.group_node.specs.Deeds.{Deed}
use Rattle.group_protocol.specs.Known.{Known, Response, on_start, begun}
use Rattle.group_node.specs.Output.{Progress, no_progress}
use Rattle.group_protocol.specs.Packets.{Datagram, Packet, datagram_of, to_all}
use Rattle.group_protocol.specs.Protocol.{on_message}
use Rattle.group_node.specs.States.{input}
use Rattle.group_protocol.specs.Tick.{on_tick}
use Rattle.group_world.specs.declared.event.Act.{Act}
use Rattle.group_world.specs.declared.event.Done.TheVariants.{Applied}
use Rattle.group_world.specs.declared.event.Event.{Event}
use Rattle.group_world.specs.declared.event.Outcome.{Outcome}
use Rattle.group_world.specs.Deeds.{DoesDeed, EndsCall, Left}
use Rattle.group_world.specs.Event.{IsDeedOf, LeadsBy, kept_event, node_of}
use Rattle.group_world.specs.Group.{World, me_of, member_at, messages_in}
use Rattle.group_node.specs.NodeCalls.{Makes, call_of_campaign, call_of_press, call_of_start, NodeCall}
use Rattle.group_world.specs.Member.{Member, member_after_call, member_after_release, RunsMember}
use Rattle.group_world.specs.Processes.{after_log, AreEventsOf, DoesEntry, Entry, IsLog, quiet_entry}
use Rattle.group_world.specs.WrittenLogs.{entry_with, hear_entry, node_in, press_entry, start_after, started_times, first_ballot}
use Rattle.group_rules.proofs.SmallPrograms.{StepsLaw, WritesLetter, replays, runs as runs_on, ten_of, waits}
use Rattle.group_world.proofs.Happens.{heard_by}
use Rattle.group_world.proofs.ProcessEvents.{events_lead, log_before, moved, no_log}
use Rattle.group_world.proofs.WorldAsGroup.{ReadLaw, packet_read, stopped}
use Rattle.paxos_msg.specs.declared.message.Body.TheVariants.{Ask, Prepare}
use Rattle.paxos_acceptor.specs.declared.me.Me.{Me}
use Rattle.paxos_proposer.specs.Proposer.{new_proposer}
use Rattle.group_protocol.proofs.Elements.{entries_none}
use Rattle.group_node.specs.Deeds as deed
use Rattle.group_node.specs.declared.player.Ran.TheVariants as more
use Rattle.group_world.specs.declared.event.Act.TheVariants as act
use Rattle.paxos_msg.specs.declared.record.Change.TheVariants as change

-- ---- nodes

-- a node that is up
abbrev pub up : Known → Progress → List ℕ → Member
up n progress console = record { kept = n.kept; console = console; node = Some (record { known = n; progress = progress }) }

-- a node that has promised a ballot, and one that has begun its own
abbrev pub promised : ℕ → ℕ → Record
promised starts i = record (started_times starts) { promised = Some (first_ballot i) }

abbrev pub asking : Me → ℕ → Known
asking me starts =
    record (begun me (promised starts me.node)) { proposer = Some (new_proposer (first_ballot me.node) 0 me.group.size) }

-- ---- the calls of a node that has heard nothing

-- a call that saves nothing
abbrev pub unsaved : Known → List Packet → Response
unsaved n packets = record { node = n; saves = None; sends = packets }

-- it ticks, hears another ask, and campaigns
pub ticks_so : (me : Me) (kept : Record) → on_tick (begun me kept) ≡ unsaved (begun me kept) (to_all (Ask 0) ∷ [])
ticks_so me kept = rw entries_none refl

pub tells_so : (me : Me) (kept : Record) (other : ℕ) → on_message (begun me kept) other (Ask 0) ≡ unsaved (begun me kept) []
tells_so me kept other = rw entries_none refl

abbrev pub prepares : Me → ℕ → Response
prepares me starts = record {
  node = asking me starts;
  saves = Some (change.Promise (first_ballot me.node));
  sends = to_all (Prepare (first_ballot me.node) 0) ∷ [];
}

pub campaigns_so : (me : Me) (starts : ℕ) → call_of_campaign (begun me (started_times starts)) ≡ Makes (prepares me starts) []
campaigns_so me starts = rw entries_none refl

-- ---- an entry and its event, one after the other

-- an entry that is this event, and leaves `new` of its node
pub record Enters (w : World) (e : Entry) (x : Event) (new : Member) : Type 0 where
  pub was : Member
  pub there : member_at w.members e.node ≡ Some was
  pub does : DoesEntry w.program (me_of w e.node) was e new
  pub is_deed : IsDeedOf (messages_in w.group w.sent) x.act e.deed
  pub at : node_of x.act ≡ e.node
  pub saved : x.save ≡ e.save

-- a log of a group that has these events
pub record Ran (w : World) (events : List Event) : Type 0 where
  pub log : List Entry
  pub now : List Member
  pub is_log : IsLog w log now
  pub are_events : AreEventsOf w.group w.sent log events

-- an entry and those after it, and no entries
infixr 30 ◌▸◌
abbrev pub ◌▸◌ : {w : World} {e : Entry} {new : Member} {x : Event} {events : List Event} → Enters w e x new → Ran (moved w e new) events
    → Ran w (x ∷ events)
◌▸◌ {w} {e} {new} {x} {events} step rest = record {
  log = e ∷ rest.log;
  now = rest.now;
  is_log =
      log_before w e rest.log rest.now step.was new step.there step.does (heard_by w.group w.sent x.act e.deed step.is_deed) rest.is_log;
  are_events = (x ∷ [], events, (step.is_deed, step.at, step.saved, refl), rest.are_events, refl);
}

abbrev pub stop : {w : World} → Ran w []
stop {w} = record { log = []; now = w.members; is_log = (no_log w w refl).0; are_events = refl }

-- the log with its nodes
abbrev pub made : {w : World} {events : List Event} → (run : Ran w events) → (now : List Member) × IsLog w run.log now
made run = (run.now, run.is_log)

-- its events lead to its nodes
pub leads_to : {w : World} {events : List Event} (run : Ran w events) → LeadsBy w events (after_log w run.log run.now)
leads_to {w} {events} run = events_lead run.log w run.now events run.is_log run.are_events

-- ---- the entries of a node

-- a node whose machine has made ten steps, and one that has then released the letter
abbrev pub ran : Parts → Known → Member
ran p n = up n (ten_of p) []

abbrev pub shown : Parts → Known → Member
shown p n = member_after_release (ran p n) (record { known = n; progress = ten_of p }) (Some 65)

module _ {w : World} (i : ℕ) where
  -- a start whose save fails, or is kept
  pub fails : (n : ℕ) (save : Outcome) (new : Member) → member_at w.members i ≡ Some (stopped (started_times n))
      → DoesEntry w.program (me_of w i) (stopped (started_times n)) (record (start_after (me_of w i) n) { save = save }) new
      → Enters w (record (start_after (me_of w i) n) { save = save }) (record { act = act.Start i; save = save }) new
  fails n save new there does =
      grind arith

  pub starts : (n : ℕ) → member_at w.members i ≡ Some (stopped (started_times n))
      → call_of_start (me_of w i) (started_times n) ≡ Makes (on_start (me_of w i) (started_times n)) []
      → Enters w (start_after (me_of w i) n) (kept_event (act.Start i))
      (up (begun (me_of w i) (started_times (n + 1))) (no_progress w.program) [])
  starts n there spare =
      grind arith

  module _ {progress : Progress} {console : List ℕ} (n : Known) (there : member_at w.members i ≡ Some (up n progress console)) where
    -- a deed whose save, if it makes one, is kept
    pub acts : (d : Deed) (a : Act) (packets : List Packet) (typed : List Value) (new : Member)
        → DoesEntry w.program (me_of w i) (up n progress console) (record (entry_with (me_of w i) d packets) { typed = typed }) new
        → IsDeedOf (messages_in w.group w.sent) a d → node_of a ≡ i
        → Enters w (record (entry_with (me_of w i) d packets) { typed = typed }) (kept_event a) new
    acts d a packets typed new does is_deed at =
        grind arith

    -- a call
    calls : (d : Deed) (a : Act) (call : NodeCall) (made : Response) (typed : List Value) → call ≡ Makes made typed
        → ((left : Left) → EndsCall (me_of w i) (up n progress console) progress None call left
        → DoesDeed w.program (me_of w i) (up n progress console) None d left)
        → IsDeedOf (messages_in w.group w.sent) a d → node_of a ≡ i
        → Enters w (record (entry_with (me_of w i) d made.sends) { typed = typed }) (kept_event a) (member_after_call made console progress)
    calls d a call made typed e does =
        acts d a made.sends typed _ (Applied, does _ (grind (arith, nat_tests)))

    pub hears : (k sender : ℕ) (body : Body) (made : Response)
        → slice_get (messages_in w.group w.sent) k ≡ Some (record { sender = sender; body = body }) → on_message n sender body ≡ made
        → Enters w (hear_entry (me_of w i) sender body made.sends) (kept_event (act.Deliver k i)) (member_after_call made console progress)
    hears k sender body made number e =
        calls _ (act.Deliver k i) _ made [] (ap (λ x. Makes x []) e) (λ left ends. (_, refl, ends)) (_, number, refl) refl

    pub campaigns : (made : Response) → call_of_campaign n ≡ Makes made []
        → Enters w (entry_with (me_of w i) deed.Campaign made.sends) (kept_event (act.Campaign i)) (member_after_call made console progress)
    campaigns made e = calls deed.Campaign (act.Campaign i) _ made [] e (λ left ends. (_, refl, ends)) refl refl

    pub ticks : (made : Response) → on_tick n ≡ made
        → Enters w (entry_with (me_of w i) deed.Tick made.sends) (kept_event (act.Tick i)) (member_after_call made console progress)
    ticks made e = calls deed.Tick (act.Tick i) _ made [] (ap (λ x. Makes x []) e) (λ left ends. (_, refl, ends)) refl refl

    pub presses : (byte : ℕ) (new : Known) (v : Value) → byte < 256 → call_of_press n byte ≡ Makes (unsaved new []) (v ∷ [])
        → Enters w (press_entry (me_of w i) byte v) (kept_event (act.Press i byte)) (up new progress console)
    presses byte new v low e =
        calls (deed.Press byte) (act.Press i byte) _ (unsaved new []) (v ∷ []) e (λ left ends. (_, refl, low, ends)) refl refl

    pub crashes : Enters w (quiet_entry i deed.Crash) (kept_event (act.Crash i))
        (record { kept = n.kept; console = console; node = None })
    crashes = acts deed.Crash (act.Crash i) [] [] _ (Applied, (_, refl, refl)) refl refl

  -- its machine runs, and the letter is released
  module _ (n : Known) (h : WritesLetter w.program (input n)) where
    pub runs : StepsLaw → member_at w.members i ≡ Some (up n (no_progress w.program) [])
        → Enters w (quiet_entry i (deed.Run 10)) (kept_event (act.Run i 10)) (ran w.program n)
    runs steps there =
        let run : RunsMember _ _ 10 (ran w.program n) =
        record { progress = ten_of w.program; ran = more.More; runs = runs_on h steps; replay = replays h; new_is = refl } in
        acts n there (deed.Run 10) (act.Run i 10) [] [] (ran w.program n) (Applied, (_, refl, run, refl)) refl refl

    pub releases : member_at w.members i ≡ Some (ran w.program n)
        → Enters w (quiet_entry i deed.Release) (kept_event (act.Release i)) (shown w.program n)
    releases there =
        acts n there deed.Release (act.Release i) [] [] (shown w.program n) (Applied, (_, refl, rw (waits h) refl)) refl refl

-- ---- what is sent

-- a packet of a node, as datagram and as message
abbrev pub Said : Type 0
Said = ℕ × Packet

abbrev pub datagram_by : Group → Said → Datagram
datagram_by group x = datagram_of (node_in group x.0) x.1

abbrev pub message_by : Said → Msg
message_by x = record { sender = x.0; body = x.1.body }

abbrev pub FitsIn : Group → Said → Type 0
FitsIn group x = IsNode group.size x.0 × IsBody group.size x.0 x.1.body

-- of those sent first, the message with a number is read as it was sent
abbrev pub AreNumbered : Group → List Said → Type 0
AreNumbered group said =
    (sent k : ℕ) (m : Msg) → slice_get (map message_by (take sent said)) k ≡ Some m
    → slice_get (messages_in group (map (datagram_by group) (take sent said))) k ≡ Some m

module _ (read : ReadLaw) (group : Group) (session : IsGroup group) where
  -- each datagram is read as its message
  pub reads : (xs : List Said) → AllByRecursion (FitsIn group) xs → messages_in group (map (datagram_by group) xs) ≡ map message_by xs
  reads [] fits = refl
  reads (x ∷ xs) ((node, body), fits) =
      let first = packet_read read (node_in group x.0) session node x.1 body in
      λ t. cons_option ((first.0.read ∙ ap Some first.1) t) (reads xs fits t)

  pub numbered : (said : List Said) → AllByRecursion (FitsIn group) said → AreNumbered group said
  numbered said fits sent k m is =
      let first = recursion_from_All (FitsIn group) _ (All-take (FitsIn group) sent said (All-from_recursion _ said fits)) in
      ap (λ ms. slice_get ms k) (reads (take sent said) first) ∙ is
