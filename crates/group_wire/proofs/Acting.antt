-- A turn, a receive and a campaign as deeds.
use Rattle.std.proofs.Common.{◌≡◌, ◌≢◌, ◌+◌, ◌<◌, ◌⊎◌, ◌↔◌, ℕ, Bool, true, false, List, [], ◌∷◌, ◌++◌, Option, Some, None, IfNone, OnSome, option_map, slice_get, Result, Ok, Err, inl, inr, refl, sym, ap, subst, ◌∙◌, append-nil, append_assoc, arith}
use Rattle.std.proofs.lemmas.Bool.Decides.{nat_tests}
use Rattle.std.proofs.lemmas.Grind.{flat_map-append}
use Rattle.std.proofs.lemmas.List.Elements.{All-head, All-tail}
use Rattle.std.specs.List.{All}
use Rattle.paxos_msg.specs.Batches.{Msg}
use Rattle.paxos_acceptor.specs.declared.me.Me.{Me}
use Rattle.paxos_acceptor.specs.Stores.{StoreKind}
use Rattle.group_protocol.specs.declared.fault.NodeFault.{NodeFault}
use Rattle.group_protocol.specs.declared.fault.NodeFault.TheVariants.{Stopped, Store}
use Rattle.group_protocol.specs.Known.{Known, front}
use Rattle.group_protocol.specs.Packets.{datagrams_of}
use Rattle.group_protocol.specs.ProposerResponses.{last_round, on_campaign}
use Rattle.paxos_msg.specs.declared.limits.TheConstants.{LAST_ROUND, PLACES}
use Rattle.group_node.specs.Output.{IsReplay, unreleased_of}
use Rattle.group_node.specs.States.{NodeState, input}
use Rattle.group_wire.specs.declared.answers.Received.{Received}
use Rattle.group_wire.specs.declared.answers.Turned.{Turned}
use Rattle.group_wire.specs.declared.limits.TheConstants.{TURN_STEPS}
use Rattle.group_wire.specs.Arrivals.{Arrival, Ending, EndsAt, Fate, GoesOn, Hears, IsFateOf, NoneCame, Refuses, heard_of}
use Rattle.group_node.specs.Deeds.{Campaign, Deed, Hear, Release, Run}
use Rattle.group_node.specs.NodeCalls as call
use Rattle.group_node.specs.NodeCalls.{Running, call_of_campaign, running}
use Rattle.group_wire.specs.Doings.{ActsBy, DoesAll, DoesOnWire, Doing, Fails, HasActed, after_fate, after_heard, deed_of, hearing, last_receiving, prompt_in, prompts_of, receives, sent_of, ticked_if, ticking, transfers_of}
use Rattle.group_wire.specs.Traffic.{Traffic, grown}
use Rattle.group_wire.specs.Campaigns.{HasCampaigned}
use Rattle.group_wire.specs.declared.rested.Rested.{Rested}
use Rattle.group_wire.specs.Turns.{HasFailedAt, HasHeard, HasTurned, HearsSome, TellsOfOne, is_made}
use Rattle.group_wire.proofs.Carrying.{grown_twice, passed_then}
use Rattle.group_wire.proofs.Hearing.{after_came}

-- ---- deeds, one after the other

-- a node that stops only where this happened, which it did not
still : (a b : Bool) {F : Type 0} → (a ≡ true) ↔ ((b ≡ true) ⊎ F) → ¬ F → a ≡ b
still true true h none = refl
still false false h none = refl
still true false h none = elim (h.0 refl) [ inl was ↦ absurd cc | inr failed ↦ absurd (none failed) ]
still false true h none = let is : false ≡ true = h.1 (inl refl) in absurd cc

-- the prompts of some deeds, and then of others
prompts_then : (ds es : List Doing) {p q : List Deed} → prompts_of ds ≡ p → prompts_of es ≡ q → prompts_of (ds ++ es) ≡ p ++ q
prompts_then ds es first second = flat_map-append (λ (d : Doing). prompt_in d.deed) ds es ∙ rw (first, second) refl

-- some deeds, and then others
does_then : (me : Me) (w : Running) (ds es : List Doing) (v u : Running) → DoesAll me w ds v → DoesAll me v es u → DoesAll me w
    (ds ++ es) u
does_then me w [] es v u first second = subst (λ x. DoesAll me x es u) first second
does_then me w (d ∷ ds) es v u (mid, does, rest) second = (mid, does, does_then me mid ds es v u rest second)

-- a node and its wire that act, and then act again
pub acts_then : {S : Type 0} {old mid new : NodeState S} {from via to : Option Traffic} {p q : List Deed} → HasActed old mid from via p
    → HasActed mid new via to q → HasActed old new from to (p ++ q)
acts_then {S} {old} {mid} {new} {from} {via} {to} (ds, first, ps) (es, second, qs) = (
  ds ++ es,
  record {
    me = second.me ∙ first.me;
    does = does_then _ (running old) ds es (running mid) (running new) first.does
        (subst (λ (x : Me). DoesAll x (running mid) es (running new)) first.me second.does);
    traffic = grown_twice from via to _ _ _ first.traffic (rw first.me at second.traffic) (passed_then old.protocol.known.me ds es);
    stays = second.stays ∙ first.stays;
  },
  prompts_then ds es ps qs,
)

-- ---- receives

module _ (me : Me) where
  -- one datagram, by its fate
  fate_does : (w : Running) (bytes : List ℕ) (fate : Fate) → IsFateOf me.group bytes fate
      → DoesOnWire me w (deed_of fate) (record { deed = deed_of fate; given = Some bytes ∷ []; sent = sent_of me w.known fate; typed = [] })
      (record w { known = after_fate w.known fate })
  fate_does w bytes (Hears m) spelled = (bytes, spelled, refl, (refl, refl, refl))
  fate_does w bytes fate unheard = (refl, (refl, refl))

  -- several
  receives_does : (w : Running) (came : List Arrival) → All (λ a. IsFateOf me.group a.bytes a.fate) came
      → DoesAll me w (receives me w.known came) (record w { known = after_heard w.known (heard_of came) })
  receives_does w [] fates = refl
  receives_does w (a ∷ came) fates =
      let P : Arrival → Type 0 = λ a. IsFateOf me.group a.bytes a.fate in
      let mid : Running = record w { known = after_fate w.known a.fate } in
      let rest = receives_does mid came (All-tail P a came fates) in
      (mid, fate_does w a.bytes a.fate (All-head P a came fates), rw (after_came w.known a.fate (heard_of came)) rest)

  -- receives are no prompts
  receives_unprompted : (n : Known) (came : List Arrival) → prompts_of (receives me n came) ≡ []
  receives_unprompted n [] = refl
  receives_unprompted n (a ∷ came) = grind (arith, receives_unprompted (after_fate n a.fate) came)

  hearing_unprompted : (n : Known) (came : List Arrival) (ending : Ending) → prompts_of (hearing me n came ending) ≡ []
  hearing_unprompted n came ending =
      prompts_then (receives me n came) (last_receiving ending) (receives_unprompted n came) (grind arith)

  -- nor is a tick
  tick_unprompted : (ticks : Bool) (n : Known) → prompts_of (ticking me ticks n) ≡ []
  tick_unprompted ticks n = grind arith

  -- a tick, or none
  tick_does : (w : Running) (ticks : Bool) → DoesAll me w (ticking me ticks w.known) (record w { known = (ticked_if ticks w.known).node })
  tick_does w true = (record w { known = (ticked_if true w.known).node }, (refl, (refl, refl, refl)), refl)
  tick_does w false = refl

  -- the last receive, where no message was refused
  last_does : (w : Running) (ending : Ending) → (ending ≡ NoneCame) ⊎ (ending ≡ GoesOn) → DoesAll me w (last_receiving ending) w
  last_does w ending (inl none) = rw none (w, (refl, (refl, refl)), refl)
  last_does w ending (inr goes) = rw goes refl

  -- all receives, where no message was refused
  hearing_does : (w : Running) (came : List Arrival) (ending : Ending) → All (λ a. IsFateOf me.group a.bytes a.fate) came
      → (ending ≡ NoneCame) ⊎ (ending ≡ GoesOn)
      → DoesAll me w (hearing me w.known came ending) (record w { known = after_heard w.known (heard_of came) })
  hearing_does w came ending fates ended = does_then me w _ _ _ _ (receives_does w came fates) (last_does _ ending ended)

-- a message that was refused
abbrev refused_at : List ℕ → Msg → Doing
refused_at bytes m = record { deed = Hear m; given = Some bytes ∷ []; sent = []; typed = [] }

-- nothing passes
pub nothing_passed : (t : Option Traffic) → t ≡ grown t []
nothing_passed None = refl
nothing_passed (Some t) = ap Some (sym (append-nil t))

-- ---- a turn

-- the run of the machine in a turn
abbrev turn_run : Doing
turn_run = record { deed = Run TURN_STEPS; given = []; sent = []; typed = [] }

-- it has stopped then exactly if it had before, which it had not
turn_stops : {S : Type 0} {kind : StoreKind S} {rested : Rested} {old new : NodeState S} {from to : Option Traffic} (done : Turned)
    → HasTurned kind rested old new from to (Ok done) → (new.protocol.is_stopped ≡ true) ↔ ((old.protocol.is_stopped ≡ true) ⊎ ⊥)
turn_stops done h = grind (arith, h.stops, h.stopped)

-- the deeds of a turn that was not refused
turn_acts : {S : Type 0} {kind : StoreKind S} {rested : Rested} {old new : NodeState S} {from to : Option Traffic} (done : Turned)
    → HasTurned kind rested old new from to (Ok done) → IsReplay (input new.protocol.known) new.progress
    → HasActed old new from to (Run TURN_STEPS ∷ [])
turn_acts {S} {kind} {old} {new} {from} {to} done h replay =
    let me : Me = old.protocol.known.me in
    let w : Running = running old in
    let after : Running = record w { known = after_heard w.known (heard_of h.came) } in
    let ticked : Running = record w { known = (ticked_if (is_made done.tick) after.known).node } in
    let ended : (h.ending ≡ NoneCame) ⊎ (h.ending ≡ GoesOn) = elim h.hears.ended [ inl none ↦ inl none | inr goes ↦ inr goes.0 ] in
    let heard = hearing_does me w h.came h.ending h.plays.arrivals.fates ended in
    let all = does_then me w _ _ after ticked heard (tick_does me after (is_made done.tick)) in
    let runs : DoesOnWire me ticked (Run TURN_STEPS) turn_run (running new) =
    (done.ran, h.plays.known, rw h.plays.known at h.runs, rw h.plays.known at replay, refl, (refl, refl)) in
    let hears : List Doing = hearing me w.known h.came h.ending in
    let ticks : List Doing = ticking me (is_made done.tick) after.known in
    let ds : List Doing = hears ++ ticks in
    let unprompted =
    prompts_then hears ticks (hearing_unprompted me w.known h.came h.ending) (tick_unprompted me (is_made done.tick) after.known) in (
      ds ++ turn_run ∷ [],
      record {
        me = h.me;
        does = does_then me w ds (turn_run ∷ []) ticked (running new) all (running new, runs, refl);
        traffic = grown_twice from to to (transfers_of me ds) [] _ h.plays.traffic (nothing_passed to) (passed_then me ds _);
        stays = still new.protocol.is_stopped old.protocol.is_stopped (turn_stops done h) (λ f. absurd f);
      },
      prompts_then ds (turn_run ∷ []) unprompted refl,
    )

-- receives the last of which was refused
hears_fails : {S : Type 0} (kind : StoreKind S) (came : List Arrival) (ending : Ending) {old new : NodeState S} {from to : Option Traffic}
    → EndsAt ending (HasFailedAt kind new) → HearsSome came ending old new from to
    → Fails kind old new from to []
hears_fails kind came GoesOn ends h = absurd ends
hears_fails kind came NoneCame ends h = absurd ends
hears_fails kind came (Refuses bytes m) {old} {new} ends h =
    let me : Me = old.protocol.known.me in
    let w : Running = running old in (
      receives me w.known came,
      refused_at bytes m,
      record {
        me = h.me;
        does = rw (h.known, h.progress) (receives_does me w came h.arrivals.fates);
        fails = (bytes, h.arrivals.last, refl, (refl, refl), ends.0);
        traffic = h.traffic;
        leaves = ends.2;
      },
      hearing_unprompted me w.known came (Refuses bytes m),
    )

-- the deeds of a turn, by its answer
pub turn_acts_by : {S : Type 0} {kind : StoreKind S} {rested : Rested} {old new : NodeState S} {from to : Option Traffic}
    (result : Result Turned NodeFault) → HasTurned kind rested old new from to result
    → IsReplay (input new.protocol.known) new.progress → ActsBy kind old new from to (Run TURN_STEPS ∷ []) [] result
turn_acts_by (Ok done) h replay = turn_acts done h replay
turn_acts_by {kind = kind} (Err Store) h replay = hears_fails kind h.came h.ending (h.hears.fault refl) (record {
  arrivals = h.plays.arrivals;
  known = h.plays.known;
  me = h.me;
  traffic = rw append-nil at h.plays.traffic;
  progress = h.rest;
})
turn_acts_by (Err Stopped) h replay = tt
turn_acts_by (Err e) h replay = elim h.others [ inl stopped ↦ absurd cc | inr store ↦ absurd cc ]

-- ---- a receive

-- receives of which none was refused
hears_acts : {S : Type 0} {came : List Arrival} {ending : Ending} {old new : NodeState S} {from to : Option Traffic}
    → HearsSome came ending old new from to → (ending ≡ NoneCame) ⊎ (ending ≡ GoesOn)
    → new.protocol.is_stopped ≡ old.protocol.is_stopped → HasActed old new from to []
hears_acts {came = came} {ending} {old} h ended stays =
    let me : Me = old.protocol.known.me in
    let w : Running = running old in (
      hearing me w.known came ending,
      record {
        me = h.me;
        does = rw (h.known, h.progress) (hearing_does me w came ending h.arrivals.fates ended);
        traffic = h.traffic;
        stays = stays;
      },
      hearing_unprompted me w.known came ending,
    )

-- the end of a receive that was not refused
receive_ends : (heard : Received) (came : List Arrival) (ending : Ending) → TellsOfOne (Ok heard) came ending → (ending ≡ NoneCame) ⊎
    (ending ≡ GoesOn)
receive_ends heard came ending told = grind arith

-- the deeds of a receive, by its answer
pub hear_acts_by : {S : Type 0} {kind : StoreKind S} {old new : NodeState S} {from to : Option Traffic}
    (result : Result Received NodeFault) → HasHeard kind old new from to result → ActsBy kind old new from to [] [] result
hear_acts_by {old = old} {new} (Ok heard) h =
    hears_acts h.hears (receive_ends heard h.came h.ending h.tells)
    (still new.protocol.is_stopped old.protocol.is_stopped h.refused.stops (λ f. absurd cc))
hear_acts_by {kind = kind} (Err Store) h = hears_fails kind h.came h.ending (h.fault refl) h.hears
hear_acts_by (Err Stopped) h = tt
hear_acts_by (Err e) h = elim h.refused.others [ inl stopped ↦ absurd cc | inr store ↦ absurd cc ]

-- ---- a campaign

-- nothing was done
pub nothing_done : {S : Type 0} {old new : NodeState S} {from to : Option Traffic} → new.protocol.known ≡ old.protocol.known
    → new.progress ≡ old.progress → to ≡ from → new.protocol.is_stopped ≡ old.protocol.is_stopped → HasActed old new from to []
nothing_done {old = old} {new} {from} known progress traffic stays = grind (arith, nothing_passed from)

-- where a round and a place are left a campaign begins
campaign_made : (n : Known) → last_round n < LAST_ROUND → front n ≢ PLACES → call_of_campaign n ≡ call.Makes (on_campaign n) []
campaign_made n spare place = grind (arith, nat_tests)

pub campaign_acts_by : {S : Type 0} {kind : StoreKind S} {old new : NodeState S} {from to : Option Traffic}
    (result : Result (Unit {0}) NodeFault) → HasCampaigned kind old new from to result
    → ActsBy kind old new from to (Campaign ∷ []) (Campaign ∷ []) result
campaign_acts_by {old = old} {new} (Ok x) h =
    let n : Known = old.protocol.known in
    let place : front n ≢ PLACES = grind (arith, h.places, h.stopped, h.spare) in (
      record { deed = Campaign; given = []; sent = datagrams_of n.me (on_campaign n).sends; typed = [] } ∷ [],
      record {
        me = ap (λ (k : Known). k.me) h.ok;
        does = (
          running new,
          (refl, rw (campaign_made n h.spare place) (λ t. record { known = h.ok t; progress = h.progress t }, refl, refl)),
          refl,
        );
        traffic = rw append-nil h.sends;
        stays = still new.protocol.is_stopped old.protocol.is_stopped h.stops (λ f. absurd cc);
      },
      refl,
    )
campaign_acts_by {old = old} {from = from} (Err Store) h =
    let spare : last_round old.protocol.known < LAST_ROUND = h.spare_saved refl in
    let place : front old.protocol.known ≢ PLACES = grind (arith, h.places, h.stopped, spare) in (
      [],
      record { deed = Campaign; given = []; sent = []; typed = [] },
      record {
        me = ap (λ (k : Known). k.me) h.err;
        does = λ t. record { known = h.err t; progress = h.progress t };
        fails = rw (h.err, campaign_made old.protocol.known spare place) (tt, refl, (refl, refl));
        traffic = h.unsent ∙ nothing_passed from;
        leaves = λ honest r may. rw (← h.err) at (h.saves.left honest (grind (arith, h.stopped)) r may);
      },
      refl,
    )
campaign_acts_by (Err Stopped) h = tt
campaign_acts_by {old = old} {new} (Err e) h =
    nothing_done h.err h.progress h.unsent (still new.protocol.is_stopped old.protocol.is_stopped h.stops (λ f. absurd cc))

-- ---- a release

pub release_acts : {S : Type 0} (old new : NodeState S) (from : Option Traffic) (o : Option ℕ) (result : Option (ℕ × ℕ))
    → slice_get (unreleased_of (input old.protocol.known) old.progress) 0 ≡ o
    → result ≡ option_map (λ b. (old.progress.released, b)) o
    → OnSome result (new.progress ≡ record old.progress { released = old.progress.released + 1 })
    → IfNone result (new ≡ old) → new.protocol ≡ old.protocol → HasActed old new from from []
release_acts old new from None result waits is some none protocol =
    let same : new ≡ old = rw is at none in nothing_done (cc) (cc) refl (cc)
release_acts old new from (Some byte) result waits is some none protocol =
    let progress : new.progress ≡ record old.progress { released = old.progress.released + 1 } = rw is at some in (
      record { deed = Release; given = []; sent = []; typed = [] } ∷ [],
      record {
        me = cc;
        does = (running new, (byte, waits, cc, refl, (refl, refl)), refl);
        traffic = nothing_passed from;
        stays = cc;
      },
      refl,
    )

-- ---- one call after another

-- deeds, and then a call at which a save fails
pub fails_then : {S : Type 0} {kind : StoreKind S} {old mid new : NodeState S} {from via to : Option Traffic} {p q : List Deed}
    → HasActed old mid from via p → Fails kind mid new via to q → Fails kind old new from to (p ++ q)
fails_then {S} {kind} {old} {mid} {new} {from} {via} {to} (ds, first, ps) (es, last, second, qs) = (
  ds ++ es,
  last,
  record {
    me = second.me ∙ first.me;
    does = does_then _ (running old) ds es (running mid) (running new) first.does
        (subst (λ (x : Me). DoesAll x (running mid) es (running new)) first.me second.does);
    fails = rw first.me at second.fails;
    traffic = rw append_assoc
        (grown_twice from via to _ _ _ first.traffic (rw first.me at second.traffic) (passed_then old.protocol.known.me ds _));
    leaves = second.leaves;
  },
  rw append_assoc (prompts_then ds (es ++ last ∷ []) ps qs),
)
