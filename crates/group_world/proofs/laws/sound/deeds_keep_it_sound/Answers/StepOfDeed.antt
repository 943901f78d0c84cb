-- Each deed keeps a world sound, and is that deed in its group. The world before all events is sound.
use Rattle.std.proofs.Common.{Contains, ◌≡◌, ◌∙◌, ℕ, ◌<◌, ◌++◌, List, [], flat_map, slice_get, Some, refl, sym, ap, subst, append-nil, arith, ◌≢◌, Bool, if◌then◌else◌, Option, None, ◌+◌, ◌-◌, ◌≤◌}
use Rattle.group_protocol.specs.Known.{Response, on_start}
use Rattle.group_world.proofs.CallCases.{campaign_cases, press_cases, start_cases}
use Rattle.std.proofs.lemmas.Bool.Decides.{nat_tests}
use Rattle.group_rules.proofs.Lists.{of_filter_map}
use Rattle.std.proofs.lemmas.Option.{same_Some}
use Rattle.std.proofs.lemmas.List.Elements.{All-contains, All-nil}
use Rattle.paxos_msg.specs.declared.message.Group.{Group}
use Rattle.paxos_msg.specs.declared.value.Value.{Value}
use Rattle.paxos_msg.specs.Batches.{Msg, Record, Change}
use Rattle.paxos_msg.specs.Fits.{IsGroup}
use Rattle.paxos_msg.specs.Keys.{Key, keys_of}
use Rattle.group_protocol.specs.Protocol.{on_message}
use Rattle.group_protocol.specs.Tick.{on_tick}
use Rattle.group_node.specs.Output.{no_progress, Progress, IsReplay, RunsOn}
use Rattle.group_protocol.specs.Ranges.{IsFit, IsHeardFit, IsMember}
use Rattle.group_protocol.specs.Steps.{IsLawfulCall}
use Rattle.group_world.specs.Group.{IsDown, IsUp, me_of, message_of, messages_in, World, with_member, member_at, new_world}
use Rattle.group_world.specs.Group.{world_state, seat_of_member, up_of}
use Rattle.group_node.specs.NodeCalls.{Running, NodeCall, Makes, Refuses, call_of_campaign, call_of_press, call_of_start}
use Rattle.group_world.specs.Member.{Member, failing, save_outcome, at_progress, member_after_release}
use Rattle.group_world.specs.Sound.{IsSpelling}
use Rattle.group_world.specs.Sound.{IsSound}
use Rattle.std.specs.FinMap.{empty}
use Rattle.group_world.proofs.WorldAsGroup.{RunsAt, is_node, running, called_state, member_state, changed_elsewhere, changed_here, SoundAt, first_node, stopped}
use Rattle.group_world.proofs.laws.sound.deeds_keep_it_sound.Answers.SoundAfterChange.{Laws, MayMake, call_sound, crash_sound, fall_sound, release_sound, run_sound}
use Rattle.pcode_machine.specs.Configuration.{Configuration}
use Rattle.pcode_machine.specs.Runs.{after_steps, begin, out}
use Rattle.paxos_acceptor.specs.declared.me.Me.{Me}
use Rattle.paxos_acceptor.specs.Stores.{IsOneOf}
use Rattle.group_protocol.specs.States.{IsSize}
use Rattle.group_node.specs.States.{input}
use Rattle.group_node.specs.Deeds as deed
use Rattle.group_node.specs.Deeds.{Deed}
use Rattle.group_rules.specs.Rules as group
use Rattle.group_rules.specs.Rules.{SitsSoundly, Sits, WorldStep, after_call, with_seat, ChangesOnly, WorldState}
use Rattle.group_world.specs.declared.event.Done.{Done}
use Rattle.group_world.specs.declared.event.Done.TheVariants.{Applied}
use Rattle.group_world.specs.Deeds.{DoesDeed, EndsCall, Left, quietly}
use Rattle.group_world.proofs.CallLeaves.{Leaves, LeavesBy, idle_leads, leaves_so, quiet_leads, world_after_call, world_after_fall}
use Rattle.group_world.specs.Event.{DoesAt, HearsOf, world_after}
use Rattle.group_world.specs.Event.{IsStepAt}
use Rattle.pcode_file.specs.Parts.{Parts}
use Rattle.paxos_msg.specs.Records.{empty_record}
use Rattle.group_node.specs.declared.player.Ran.{Ran}
use Rattle.group_world.proofs.Written.{next_of, next_written, written}
use Rattle.std.proofs.lemmas.List.{length-replicate}

-- ---- a call that a deed makes

-- The call is refused; or it may be made and leaves the group after the deed `e`, also if its save
-- fails.
abbrev StepsCall : World → Deed → ℕ → Member → Progress → NodeCall → Type 0
StepsCall w e i m progress (Refuses f) = Unit {0}
StepsCall w e i m progress (Makes made keys) =
    MayMake w i m made progress keys
    × WorldStep (world_state w) i e (world_state (world_after_call w i made m.console progress keys))
    × ((is_changed : Bool) → made.saves ≢ None
    → WorldStep (world_state w) i e (world_state (world_after_fall w i m (if is_changed then made.node.kept else m.kept))))

-- a save that fails is a save of the call
fails_some : (saves : Option Change) (plan : Option Bool) (is_changed : Bool) → failing saves plan ≡ Some is_changed
    → (c : Change) × (saves ≡ Some c)
fails_some saves plan is_changed e = grind (arith, nat_tests)

-- a save that fails leaves the changed record or the old one
one_of : (is_changed : Bool) {old new kept : Record} → old ≡ kept → IsOneOf (if is_changed then new else kept) old new
one_of is_changed e = grind (arith, nat_tests)

module _ (laws : Laws) {w : World} (h : IsSound w) {i : ℕ} {m : Member} {q : Running} (up : IsUp w i m q) where
  abbrev s : WorldState
  s = world_state w

  sound : RunsAt w i m q
  sound = running h up

  -- a lawful call of the node that fits, at which these keys are typed
  abbrev IsAllowed : List Key → Response → Type 0
  IsAllowed keys made = IsLawfulCall (world_state w).sent ((world_state w).typed ++ keys) q.known made × IsFit q.known.me made

  -- it may be made
  may_make : (made : Response) (keys : List Value) → IsAllowed (flat_map keys_of keys) made → MayMake w i m made q.progress keys
  may_make made keys (lawful, fits) =
      record {
        me_is = fits.same ∙ sound.me_is;
        before = q.known.learner.learned;
        lawful = rw sound.kept_is at lawful;
        ranges = fits.ranges;
        fits = rw sound.me_is at fits.sends;
        program = sound.program;
        replay = laws.learning_keeps_the_output.ensures.replay q.known.learner.learned _ q.progress lawful.keeps sound.replay;
      }

  -- where nothing is typed
  alone : {made : Response} → IsLawfulCall (world_state w).sent (world_state w).typed q.known made → IsFit q.known.me made
      → IsAllowed [] made
  alone lawful fits = (rw append-nil lawful, fits)

  -- a typed byte, a campaign, a tick and a message are allowed
  -- a message that was sent has a spelling
  heard_fits : (message : Msg) → Contains (messages_in w.group w.sent) message → IsHeardFit q.known.me message.sender message.body
  heard_fits message heard =
      let (d, among, read) = of_filter_map (message_of w.group) w.sent message heard in
      let spelling = All-contains (IsSpelling w.group) w.sent d h.spelled among in
      rw (sound.me_is, ← same_Some _ _ (sym spelling.read ∙ read)) spelling.spells.fits

  -- the configuration of its machine
  abbrev configuration : Configuration
  configuration = after_steps q.progress.program (input q.known) q.progress.steps

  -- the node is in its group
  sits : Sits s q.known configuration q.progress.released m.console
  sits =
      grind (arith, sound.me_is, sound.kept_is)

  seated : SitsSoundly s q.known configuration q.progress.released m.console
  seated = record { sits = sits; ranges = sound.ranges; backs = sound.backs }

  -- the same step, at the node's own number
  at_number : (P : ℕ → Type 0) → P q.known.me.node → P i
  at_number P = subst (λ (me : Me). P me.node) sound.me_is

  -- an allowed call is the deed `e` in the group, and so is its save if it fails
  call_steps : (e : Deed) (made : Response) (keys : List Value) → IsAllowed (flat_map keys_of keys) made
      → WorldStep s q.known.me.node e
      (after_call s q.known.me.node made (flat_map keys_of keys) configuration q.progress.released m.console)
      → (made.saves ≢ None → (left : Record) → IsOneOf left q.known.kept made.node.kept → WorldStep s q.known.me.node e
      (with_seat s q.known.me.node (record { kept = left; console = m.console; up = None })))
      → StepsCall w e i m q.progress (Makes made keys)
  call_steps e made keys allowed step falls =
      let may = may_make made keys allowed in
      let same = laws.learning_keeps_the_output.ensures.configuration q.known.learner.learned _ q.progress
      allowed.0.keeps sound.replay in
      let state =
      called_state laws.spelling_is_read.ensures.read w i m made q.progress keys up.there h.session (is_node i h up.there) may.fits in (
        may,
        rw (state, same) (rw sound.me_is at step),
        λ is_changed saves.
            let left = if is_changed then made.node.kept else m.kept in
            rw (member_state w i m (record { kept = left; console = m.console; node = None }) up.there)
            (rw sound.me_is at (falls saves left (one_of is_changed sound.kept_is))),
      )

  -- each of these calls
  press_steps : (byte : ℕ) → byte < 256 → StepsCall w (deed.Press byte) i m q.progress (call_of_press q.known byte)
  press_steps byte low =
      press_cases (StepsCall w (deed.Press byte) i m q.progress) (λ f. tt) q.known byte (λ ne other.
      let ranges = sound.ranges in
      call_steps (deed.Press byte) _ _ (
        laws.calls_are_lawful.ensures.typed _ _ q.known byte ranges sound.backs,
        laws.what_goes_out_fits.ensures.typed q.known byte ranges low (omega (arith, ranges.waiting.few, ne))
            (omega (arith, ranges.waiting.fits, other)),
      )
      (laws.calls_are_deeds.ensures.press s q.known byte _ configuration m.console seated)
      (λ saves. absurd (saves refl)))

  campaign_steps : StepsCall w deed.Campaign i m q.progress (call_of_campaign q.known)
  campaign_steps =
      campaign_cases (StepsCall w deed.Campaign i m q.progress) (λ f. tt) q.known (λ low other.
      let within = laws.one_front.ensures.few q.known.learner.learned sound.ranges.learner.window in
      call_steps deed.Campaign _ []
      (alone (laws.calls_are_lawful.ensures.campaign _ _ q.known sound.ranges sound.backs)
      (laws.what_goes_out_fits.ensures.campaign q.known sound.ranges (omega (arith, low)) (omega (arith, within, other))))
      (laws.calls_are_deeds.ensures.campaign s q.known _ configuration m.console seated)
      (λ saves left. laws.calls_are_deeds.ensures.falls_campaign s q.known _ left configuration m.console seated))

  tick_steps : StepsCall w deed.Tick i m q.progress (Makes (on_tick q.known) [])
  tick_steps =
      let none : (on_tick q.known).saves ≡ None = grind (arith, nat_tests) in
      call_steps deed.Tick _ []
      (alone (laws.calls_are_lawful.ensures.tick _ _ q.known sound.ranges sound.backs)
      (laws.what_goes_out_fits.ensures.tick q.known sound.ranges))
      (laws.calls_are_deeds.ensures.tick s q.known _ configuration m.console seated)
      (λ saves. absurd (saves none))

  hear_steps : (message : Msg) → Contains (messages_in w.group w.sent) message
      → StepsCall w (deed.Hear message) i m q.progress (Makes (on_message q.known message.sender message.body) [])
  hear_steps message heard =
      let fits = heard_fits message heard in
      call_steps (deed.Hear message) _ []
      (alone (laws.calls_are_lawful.ensures.message _ _ q.known _ message.body sound.ranges sound.backs
      (record { is_sent = heard; fits = fits }))
      (laws.what_goes_out_fits.ensures.message q.known _ message.body sound.ranges fits))
      (laws.calls_are_deeds.ensures.hear s q.known _ _ message.body configuration m.console seated fits heard)
      (λ saves left.
      laws.calls_are_deeds.ensures.falls_hearing s q.known _ _ message.body left configuration m.console seated fits heard saves)

  -- nothing changes but at node `i`, which is now this
  only_here : (new : Member) → ChangesOnly s (world_state (with_member w i new)) i [] []
  only_here new = grind (arith, changed_elsewhere, append-nil)

  -- node `i` is now this
  here : (new : Member) → (world_state (with_member w i new)).seats i ≡ seat_of_member (Some new)
  here new = ap seat_of_member (changed_here w.members i m new up.there)

  crash_steps : WorldStep s i deed.Crash (world_state (world_after_fall w i m m.kept))
  crash_steps =
      let new : Member = record { kept = m.kept; console = m.console; node = None } in
      record { left = rw up.there (here new); rest = only_here new }

  release_of : (o : Option ℕ) → slice_get (written q) q.progress.released ≡ o
      → WorldStep s i deed.Release (world_state (with_member w i (member_after_release m q o)))
  unfolding out
  release_of o e = record {
    was = up_of q;
    from = rw (up.there, up.up) refl;
    left = here (member_after_release m q o) ∙ rw (up.there, e) (grind (arith, nat_tests));
    rest = only_here (member_after_release m q o);
  }

  -- a run
  run_steps : (most : ℕ) (progress : Progress) (ran : Ran)
      → RunsOn (input q.known) most q.progress progress ran → IsReplay (input q.known) progress
      → WorldStep s i (deed.Run most) (world_state (with_member w i (at_progress m q progress)))
  run_steps most progress ran runs replay =
      let x = input q.known in
      let more = progress.steps - q.progress.steps in
      let count : progress.steps ≡ q.progress.steps + more = omega (arith, runs.more) in
      let program = ap (λ (y : Progress). y.program) runs.rest ∙ sound.program in
      let few : more ≤ most = omega (arith, laws.output_is_a_deed.ensures.few x most q.progress progress ran runs) in
      let here = rw sound.program at sits in
      let leads = rw (count, program) at replay.made in
      let step = at_number (λ j. WorldStep s j (deed.Run most) (with_seat s j (group.seat_of q.known
      (after_steps w.program x (q.progress.steps + more)) q.progress.released m.console)))
      (laws.output_is_a_deed.ensures.run s q.known most _ more _ m.console here few leads) in
      let released = ap (λ (y : Progress). y.released) runs.rest in
      let seat : seat_of_member (Some (at_progress m q progress))
      ≡ group.seat_of q.known (after_steps w.program x (q.progress.steps + more)) q.progress.released m.console =
      rw (program, ← count, released, sound.kept_is) refl in
      rw (member_state w i m (at_progress m q progress) up.there, seat) step

-- a start
module _ (laws : Laws) {w : World} (h : IsSound w) (i : ℕ) {m : Member} (down : IsDown w i m) where
  -- its machine is before its first step
  first_configuration : (p : Parts) (x : List ℕ) → after_steps p x 0 ≡ begin p
  unfolding after_steps
  first_configuration p x = refl

  -- it may be made
  start_may : m.kept.starts ≢ 4294967295 → MayMake w i m (on_start (me_of w i) m.kept) (no_progress w.program) []
  start_may other =
      let own = h.members i m down.there in
      let me : IsMember (me_of w i) = record { node = is_node i h down.there; few = h.size.few } in
      let fits = laws.what_goes_out_fits.ensures.start (me_of w i) m.kept me own.ranges (omega (arith, own.ranges.starts, other)) in
      record {
        me_is = refl;
        before = empty;
        lawful = laws.calls_are_lawful.ensures.start (world_state w).sent _ (me_of w i) m.kept own.backed;
        ranges = fits.ranges;
        fits = fits.sends;
        program = refl;
        replay = laws.learning_keeps_the_output.ensures.begins w.program _;
      }

  start_steps : StepsCall w (deed.Start m.kept) i m (no_progress w.program) (call_of_start (me_of w i) m.kept)
  start_steps =
      start_cases (StepsCall w (deed.Start m.kept) i m (no_progress w.program)) (λ f. tt) _ m.kept (λ other.
      let made = on_start (me_of w i) m.kept in
      let may = start_may other in
      let seated : (world_state w).seats i ≡ record { kept = m.kept; console = m.console; up = None } = rw (down.there, down.down) refl in
      let state =
      called_state laws.spelling_is_read.ensures.read w i m made (no_progress w.program) [] down.there h.session
      (is_node i h down.there) may.fits
      ∙ ap (λ c. after_call (world_state w) i made [] c 0 m.console)
      (first_configuration w.program (input made.node)) in (
        may,
        rw state (laws.calls_are_deeds.ensures.start _ (me_of w i) m.kept m.console refl seated),
        λ is_changed saves.
            let left = if is_changed then made.node.kept else m.kept in
            rw (member_state w i m (record { kept = left; console = m.console; node = None }) down.there)
            (laws.calls_are_deeds.ensures.falls_start _ (me_of w i) m.kept left m.console seated (one_of is_changed refl)),
      ))

-- ---- the deed

-- what is left is sound, and a step of the group
abbrev pub GoesOn : World → ℕ → Deed → Done → World → Type 0
GoesOn w i e d v = IsSound v × IsStepAt (world_state w) i e d (world_state v)

module _ (laws : Laws) {w : World} (h : IsSound w) (e : Deed) (i : ℕ) {m : Member} (there : member_at w.members i ≡ Some m)
    (progress : Progress) (plan : Option Bool) {d : Done} {v : World} where
  saves_go_on : (made : Response) (keys : List Value) (o : Option Bool) → failing made.saves plan ≡ o
      → StepsCall w e i m progress (Makes made keys)
      → LeavesBy w i m progress (save_outcome m.kept made keys o) d v → GoesOn w i e d v
  saves_go_on made keys None none (may, step, falls) (answer, leaves) =
      rw (answer, leaves) (call_sound laws h i there progress keys made may, step)
  saves_go_on made keys (Some is_changed) one (may, step, falls) (answer, leaves) =
      let (c, some) = fails_some made.saves plan is_changed one in
      rw (answer, leaves) (fall_sound laws h i there made may is_changed c some, falls is_changed (λ none. absurd cc))

module _ (laws : Laws) {w v : World} (h : IsSound w) (i : ℕ) (m : Member) (there : member_at w.members i ≡ Some m) (plan : Option Bool)
    (left : Left) {d : Done} (answers : d ≡ left.answer) (leads : v ≡ world_after w i left) where
  -- a deed that sends and types nothing is answered so
  quiet_answer : {new : Member} → left ≡ quietly new → d ≡ Applied
  quiet_answer is = answers ∙ ap (λ (x : Left). x.answer) is

  -- a call of the node
  call_by : (e : Deed) (progress : Progress) (call : NodeCall) → StepsCall w e i m progress call
      → EndsCall (me_of w i) m progress plan call left → GoesOn w i e d v
  call_by e progress call steps ends = by call steps (leaves_so w i m there progress plan call ends answers leads) where
    by : (call : NodeCall) → StepsCall w e i m progress call → Leaves w i m progress plan call d v → GoesOn w i e d v
    by (Refuses f) steps (answer, same) = rw (answer, same) (h, refl)
    by (Makes made keys) steps leaves = saves_go_on laws h e i there progress plan made keys _ refl steps leaves

  -- each deed, by what it is
  deed_goes_on : (e : Deed) → HearsOf w.group w.sent e → DoesDeed w.program (me_of w i) m plan e left → GoesOn w i e d v
  deed_goes_on deed.Idle heard is = rw (quiet_answer is, leads ∙ idle_leads w i m there is) (h, refl)
  deed_goes_on (deed.Start r) heard (down, over, ends) =
      rw over (call_by (deed.Start m.kept) _ _ (start_steps laws h i (record { there = there; down = down })) (rw over at ends))
  deed_goes_on (deed.Hear message) heard (q, up, ends) =
      call_by (deed.Hear message) q.progress (Makes (on_message q.known message.sender message.body) [])
      (hear_steps laws h (record { there = there; up = up }) message heard) ends
  deed_goes_on (deed.Press byte) heard (q, up, low, ends) =
      call_by (deed.Press byte) q.progress _ (press_steps laws h (record { there = there; up = up }) byte low) ends
  deed_goes_on deed.Campaign heard (q, up, ends) =
      call_by deed.Campaign q.progress _ (campaign_steps laws h (record { there = there; up = up })) ends
  deed_goes_on deed.Tick heard (q, up, ends) =
      call_by deed.Tick q.progress (Makes (on_tick q.known) []) (tick_steps laws h (record { there = there; up = up })) ends
  deed_goes_on (deed.Run most) heard (q, up, runs, is) =
      let up_so : IsUp w i m q = record { there = there; up = up } in
      let rest = runs.runs.rest in
      rw (quiet_answer is, leads ∙ quiet_leads w i m there is, runs.new_is) (
        run_sound laws h up_so runs.progress (ap (λ (x : Progress). x.program) rest) runs.replay,
        run_steps laws h up_so most runs.progress runs.ran runs.runs runs.replay,
      )
  deed_goes_on deed.Release heard (q, up, is) =
      let up_so : IsUp w i m q = record { there = there; up = up } in
      rw (quiet_answer is, leads ∙ quiet_leads w i m there is)
      (release_sound laws h up_so, release_of laws h up_so (next_of q) (next_written q))
  deed_goes_on deed.Crash heard (q, up, is) =
      grind (arith, quiet_leads w i m there is, crash_sound laws h i there, crash_steps laws h (record { there = there; up = up }))

-- Each deed keeps the world sound. One that is not refused is a step of the group, and one that is
-- refused changes nothing.
pub deeds_go_on : Laws → (w v : World) (i : ℕ) (plan : Option Bool) (e : Deed) (d : Done) → IsSound w → HearsOf w.group w.sent e
    → DoesAt w i plan e d v → GoesOn w i e d v
deeds_go_on laws w v i plan e d h heard at =
    deed_goes_on laws h i at.node at.there plan at.left at.answers at.leads e heard at.does

-- ---- before all events

module _ (laws : Laws) (p : Parts) (group : Group) where
  first_sound : (i : ℕ) → SoundAt (new_world p group) i (stopped empty_record)
  first_sound i = grind arith

  pub begun_sound : IsSize group.size → IsGroup group → IsSound (new_world p group)
  begun_sound size session = record {
    size = size;
    session = session;
    places = length-replicate group.size _;
    spelled = All-nil _;
    members = λ i m there. subst (SoundAt (new_world p group) i) (first_node p group i m there) (first_sound i);
  }
