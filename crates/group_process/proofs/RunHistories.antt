-- What a process does on its wire, deed by deed, as a history of its node. Its console grows only by a
-- release, to the length of what its run has released by then.
use Rattle.std.proofs.Common.{◌≡◌, ◌≢◌, ◌≤◌, ◌+◌, ◌∙◌, ◌⊎◌, ℕ, Bool, if◌then◌else◌, List, [], ◌∷◌, ◌++◌, flat_map, length, map, Option, Some, None, IfSome, inl, inr, refl, sym, arith}
use Rattle.std.proofs.lemmas.Bool.Decides.{nat_tests}
use Rattle.std.proofs.lemmas.List.{append-nil, length-append}
use Rattle.std.specs.List.{Contains}
use Rattle.pcode_file.specs.Parts.{Parts}
use Rattle.paxos_msg.specs.Batches.{Record}
use Rattle.paxos_acceptor.specs.declared.me.Me.{Me}
use Rattle.group_protocol.proofs.Elements.{first_in, rest_in}
use Rattle.group_protocol.specs.Known.{Known, Response, on_start}
use Rattle.group_node.specs.Console.{offered}
use Rattle.group_node.specs.Output.{Progress, no_progress}
use Rattle.group_protocol.specs.Protocol.{on_message}
use Rattle.group_protocol.specs.ProposerResponses.{on_campaign}
use Rattle.group_protocol.specs.Tick.{on_tick}
use Rattle.group_node.specs.NodeCalls.{Running, Makes, NodeCall, Refuses, call_of_campaign, call_of_press, call_of_start}
use Rattle.group_wire.specs.Doings.{DoesAll, Doing, FailsDeed, IsMade, MakesOnWire, SendsNothing, record_after}
use Rattle.group_wire.specs.Doings as wire
use Rattle.group_world.specs.declared.event.Outcome.TheVariants.{Kept}
use Rattle.group_world.specs.Event.{plan_of}
use Rattle.group_world.specs.Member.{Member, at_progress, member_after_call, member_after_fall, member_after_release}
use Rattle.group_node.specs.Deeds.{Campaign, Crash, Deed, Hear, Idle, Press, Release, Run, Start, Tick}
use Rattle.group_world.specs.declared.event.Done.TheVariants.{Applied, Fell}
use Rattle.group_world.specs.Deeds.{DoesDeed, EndsCall, Left}
use Rattle.group_world.specs.Processes.{Entry, IsHistory, left_by, quiet_entry}
use Rattle.group_process.specs.Runs.{AreStarts, NodeStart, FailsToStart, GoesOn, IsStartFrom, IsOver, NodeRun, Stand, StandsWith, Starts, run_end, ends_by, entries_of_start, entry_by, failed_as, kept_after, node_after, node_by, node_left, record_by, record_left}
use Rattle.group_wire.specs.Process.{record_of, started}

-- the node is up, with the record that it knows; its console was so before its run, or is no longer
-- than what the run has released
record IsAt (shown : List ℕ) (w : Running) (m : Member) : Type 0 where
  up : m.node ≡ Some w
  kept : m.kept ≡ w.known.kept
  shows : (m.console ≡ shown) ⊎ (length m.console ≤ w.progress.released)

-- ---- calls

-- a call whose save fails, which leaves the changed record or the old one
call_falls : (me : Me) (m : Member) (progress : Progress) (call : NodeCall) (made : Response) (is_changed : Bool) (e : Entry)
    (kept : Record) → m.kept ≡ kept → call ≡ Makes made [] → made.saves ≢ None → (e.sent ≡ []) × (e.typed ≡ [])
    → EndsCall me m progress (plan_of (failed_as is_changed)) call
    (left_by e Fell (member_after_fall m (if is_changed then made.node.kept else kept)))
call_falls me m progress call made is_changed e kept had is saves (sends, types) = grind arith

campaign_makes : (n : Known) → IsMade (call_of_campaign n) → call_of_campaign n ≡ Makes (on_campaign n) []
campaign_makes n made = grind (arith, nat_tests)

start_makes : (me : Me) (r : Record) → r.starts ≢ 4294967295 → call_of_start me r ≡ Makes (on_start me r) []
start_makes me r spare = grind (arith, nat_tests)

-- a console after a release
release_shows : {shown : List ℕ} (console : List ℕ) (released byte : ℕ) → (console ≡ shown) ⊎ (length console ≤ released)
    → (offered console released byte ≡ shown) ⊎ (length (offered console released byte) ≤ released + 1)
release_shows console released byte before = grind (arith, nat_tests, length-append console (byte ∷ []))

module _ (p : Parts) (me : Me) where
  -- what a deed of a node that is up leaves, where it is this call
  abbrev Calls : Member → Option Bool → (Known → NodeCall) → Left → Type 0
  Calls m plan call left = (q : Running) × (m.node ≡ Some q) × EndsCall me m q.progress plan (call q.known) left

  -- a call that is made
  makes : {shown : List ℕ} {w v : Running} {m : Member} (d : Doing) (call : Known → NodeCall) (made : NodeCall) → IsAt shown w m
      → call w.known ≡ made → MakesOnWire me w made d v
      → (new : Member) × Calls m None call (left_by (entry_by me.node Kept d) Applied new) × IsAt shown v new
  makes d call (Refuses f) at is none = absurd none
  makes {w = w} {m = m} d call (Makes done keys) at is (left, sends, types) =
      (member_after_call done m.console w.progress, (w, at.up, grind arith), grind arith)

  -- one deed
  deed_is_entry : {shown : List ℕ} {w v : Running} {m : Member} (d : Doing) (deed : Deed) → IsAt shown w m
      → wire.DoesOnWire me w deed d v
      → (new : Member) × DoesDeed p me m None deed (left_by (entry_by me.node Kept d) Applied new) × IsAt shown v new
  deed_is_entry d (Start r) at none = absurd none
  deed_is_entry d Crash at none = absurd none
  deed_is_entry {m = m} d Idle at (left, silent) = (m, cc, rw left at)
  deed_is_entry d (Hear x) at (bytes, spelled, given, made) = makes d (λ n. Makes (on_message n x.sender x.body) []) _ at refl made
  deed_is_entry d (Press byte) at (low, given, made) =
      let (new, (q, up, ends), next) = makes d (λ n. call_of_press n byte) _ at refl made in (new, (q, up, low, ends), next)
  deed_is_entry d Campaign at (given, made) = makes d call_of_campaign _ at refl made
  deed_is_entry d Tick at (given, made) = makes d (λ n. Makes (on_tick n) []) _ at refl made
  deed_is_entry {w = w} {v} {m} d (Run steps) at (ran, same, runs, replay, given, silent) = (
    at_progress m w v.progress,
    (
      w,
      at.up,
      record { progress = v.progress; ran = ran; runs = runs; replay = replay; new_is = refl },
      rw (silent.0, silent.1) refl,
    ),
    record { up = rw (← same) refl; kept = cc; shows = rw runs.rest at.shows },
  )
  deed_is_entry {w = w} {m = m} d Release at (byte, waits, left, given, silent) = (
    member_after_release m w (Some byte),
    (w, at.up, rw waits cc),
    rw left (record { up = refl; kept = at.kept; shows = release_shows m.console w.progress.released byte at.shows }),
  )

  -- all deeds
  doings_are_entries : {shown : List ℕ} (w v : Running) (m : Member) (doings : List Doing) → IsAt shown w m → DoesAll me w doings v
      → (last : Member) × IsHistory p me m (map (entry_by me.node Kept) doings) last × IsAt shown v last
  doings_are_entries w v m [] at same = (m, refl, rw same at)
  doings_are_entries w v m (d ∷ doings) at (mid, does, rest) =
      let (new, first, next) = deed_is_entry {w = w} {v = mid} {m = m} d d.deed at does in
      let (last, more, ends) = doings_are_entries mid v new doings next rest in
      (last, (new, (Applied, first), more), ends)

  -- ---- the ends

  -- a history and then another
  history_then : (m : Member) (es fs : List Entry) (mid last : Member) → IsHistory p me m es mid → IsHistory p me mid fs last
      → IsHistory p me m (es ++ fs) last
  history_then m [] fs mid last first second = rw first at second
  history_then m (e ∷ es) fs mid last (new, does, rest) second = (new, does, history_then new es fs mid last rest second)

  -- a start
  start_is_entry : (m : Member) (loaded : Record) → loaded.starts ≢ 4294967295 → m.node ≡ None → loaded ≡ m.kept
      → (new : Member) × DoesDeed p me m None (Start loaded) (left_by (quiet_entry me.node (Start loaded)) Applied new)
      × IsAt m.console (started p me loaded) new
  start_is_entry m loaded spare down read = grind arith

  -- a deed that is this call, and whose save fails
  deed_falls : {shown : List ℕ} (w : Running) (m : Member) (d : Doing) (is_changed : Bool) (call : Known → NodeCall) (made : Response)
      → IsAt shown w m → ((plan : Option Bool) (left : Left) → Calls m plan call left → DoesDeed p me m plan d.deed left)
      → call w.known ≡ Makes made [] → made.saves ≢ None → SendsNothing d
      → IsHistory p me m (run_end me.node is_changed (Some d))
      (member_after_fall m (if is_changed then made.node.kept else w.known.kept))
  deed_falls w m d is_changed call made at does is saves silent =
      let e = entry_by me.node (failed_as is_changed) d in
      let ends = call_falls me m w.progress (call w.known) made is_changed e w.known.kept at.kept is saves silent in
      (member_after_fall m (if is_changed then made.node.kept else w.known.kept), (Fell, does _ _ (w, at.up, ends)), refl)

  -- a deed whose save fails
  fail_ends : {shown : List ℕ} (w : Running) (m : Member) (d : Doing) (is_changed : Bool) (deed : Deed) → IsAt shown w m → d.deed ≡ deed
      → FailsDeed me w deed d
      → IsHistory p me m (run_end me.node is_changed (Some d))
      (member_after_fall m (if is_changed then record_after w.known deed else w.known.kept))
  fail_ends w m d is_changed (Hear x) at is (bytes, spelled, given, silent, saves) =
      deed_falls w m d is_changed (λ n. Makes (on_message n x.sender x.body) []) _ at (λ plan left calls. rw is calls) refl saves silent
  fail_ends w m d is_changed Campaign at is (made, given, silent) =
      deed_falls w m d is_changed call_of_campaign _ at (λ plan left calls. rw is calls) (campaign_makes w.known made)
      (λ none. absurd cc) silent
  fail_ends w m d is_changed deed at is fails = absurd fails

  end_is_entry : {shown : List ℕ} (w : Running) (m : Member) (is_changed : Bool) (failed : Option Doing) → IsAt shown w m
      → IfSome failed (λ d. FailsDeed me w d.deed d)
      → IsHistory p me m (run_end me.node is_changed failed) (member_after_fall m (record_of w is_changed failed))
  end_is_entry w m is_changed None at fails = (member_after_fall m m.kept, (Applied, (w, at.up, refl)), rw at.kept refl)
  end_is_entry w m is_changed (Some d) at fails = fail_ends w m d is_changed d.deed at refl fails

  -- an end, or none
  stand_is_entry : {shown : List ℕ} (run : NodeRun) (m : Member) (stand : Stand) → IsAt shown run.last m
      → IfSome run.process.failed (λ d. FailsDeed me run.last d.deed d)
      → (after : Member) × IsHistory p me m (ends_by me run stand) after × StandsWith after (record_by run stand) (node_by run stand)
      × (after.console ≡ m.console)
  stand_is_entry run m GoesOn at fails = (m, refl, record { record_is = at.kept; node_is = at.up }, refl)
  stand_is_entry run m (IsOver is_changed) at fails =
      let ends = end_is_entry run.last m is_changed run.process.failed at fails in
      (member_after_fall m (record_of run.last is_changed run.process.failed), ends, record { record_is = refl; node_is = refl }, refl)

  -- ---- runs

  -- these entries leave a node with this record, up or down so, whose console was so before these
  -- runs, or is no longer than what one of them has released
  abbrev Shown : Member → List NodeStart → List Entry → Record → Option Running → Type 0
  Shown m runs es kept up = (after : Member) × IsHistory p me m es after × StandsWith after kept up
      × ((after.console ≡ m.console)
      ⊎ ((run : NodeRun) × Contains runs (Starts run) × (length after.console ≤ run.last.progress.released)))

  -- a run, or a start whose save fails
  start_is_history : (m : Member) (a : NodeStart) (rest : List NodeStart) → m.node ≡ None → IsStartFrom p me m.kept a rest
      → Shown m (a ∷ rest) (entries_of_start me a) (record_left a) (node_left a)
  start_is_history m (Starts run) rest down (read, h, last) =
      let (new, starts, at) = start_is_entry m run.process.loaded h.spare down read in
      let (mid, does, still) = doings_are_entries (started p me run.process.loaded) run.last new run.process.doings at h.does in
      let (after, ends, stands, same) = stand_is_entry run mid run.stand still h.fails in (
        after,
        (new, (Applied, starts), history_then new _ _ mid after does ends),
        stands,
        elim still.shows [ inl so ↦ inl (same ∙ so) | inr few ↦ inr (run, first_in (Starts run) rest, rw same few) ],
      )
  start_is_history m (FailsToStart loaded is_changed) rest down (read, spare) =
      let e : Entry = record { node = me.node; deed = Start loaded; save = failed_as is_changed; sent = []; typed = [] } in
      let makes = start_makes me loaded spare in
      let ends = call_falls me m (no_progress p) _ (on_start me loaded) is_changed e loaded (sym read) makes (λ none. absurd cc)
      (refl, refl) in
      let fallen = member_after_fall m (record_left (FailsToStart loaded is_changed)) in
      (fallen, (fallen, (Fell, (down, read, ends)), refl), record { record_is = refl; node_is = refl }, inl refl)

  -- a run that goes on is the last, so the node is down before each other one
  down_before : (kept : Record) (a b : NodeStart) (runs : List NodeStart) → IsStartFrom p me kept a (b ∷ runs) → node_left a ≡ None
  down_before kept a b runs start = grind arith

  pub runs_history : (runs : List NodeStart) (m : Member) → m.node ≡ None → AreStarts p me m.kept runs
      → Shown m runs (flat_map (entries_of_start me) runs) (kept_after m.kept runs) (node_after None runs)
  runs_history [] m down h = (m, refl, record { record_is = refl; node_is = down }, inl refl)
  runs_history (a ∷ []) m down (start, others) = rw append-nil (start_is_history m a [] down start)
  runs_history (a ∷ b ∷ runs) m down (start, others) =
      let (after, history, stands, shows) = start_is_history m a (b ∷ runs) down start in
      let none = stands.node_is ∙ down_before m.kept a b runs start in
      let (last, later, ends, all) = runs_history (b ∷ runs) after none (rw (← stands.record_is) at others) in (
        last,
        history_then m (entries_of_start me a) (flat_map (entries_of_start me) (b ∷ runs)) after last history later,
        ends,
        elim all [
          | inl same ↦ rw same shows
          | inr (run, there, few) ↦ inr (run, rest_in a (b ∷ runs) (Starts run) there, few)
        ],
      )
