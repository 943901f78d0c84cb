-- A run in which an old Prepare above the ballot is heard, and nothing is proposed for ever.
use Rattle.std.proofs.Common.{not, ◌%◌, ◌≡◌, ◌∙◌, inl, inr, ℕ, zero, suc, ◌+◌, ◌*◌, ◌<◌, ◌≤◌, ◌==◌, Bool, IsTrue, Contains, [], ◌∷◌, ◌++◌, slice_get, Some, None, IfSome, if◌then◌else◌, refl, sym, ap, subst, arith, true, false}
use Rattle.std.proofs.lemmas.Bool.{and_from, cases_eq}
use Rattle.std.proofs.lemmas.List.Elements.{filter_map-append}
use Rattle.std.specs.FinMap.{FinMap, get}
use Rattle.std.specs.List.{range_with_len}
use Rattle.std.specs.Ordering.{nat_cmp}
use Rattle.pcode_file.specs.Parts.{Parts}
use Rattle.paxos_msg.specs.declared.message.Body.TheVariants.{Prepare}
use Rattle.paxos_msg.specs.declared.message.Group.{Group}
use Rattle.paxos_msg.specs.declared.value.Value.{Value}
use Rattle.paxos_msg.specs.Ballots.{IsAtMost, IsMajority}
use Rattle.paxos_msg.specs.Batches.{Msg, Record, Sent}
use Rattle.paxos_msg.specs.Fits.{IsNode}
use Rattle.paxos_learner.specs.Learner.{IsFront, front_of}
use Rattle.group_protocol.proofs.Elements.{first_in}
use Rattle.group_protocol.specs.Known.{front}
use Rattle.group_protocol.specs.Protocol.{on_message}
use Rattle.group_protocol.specs.ProposerResponses.{next_ballot, on_campaign}
use Rattle.group_protocol.specs.Steps.{messages_handed_out}
use Rattle.group_node.specs.Deeds as deed
use Rattle.group_node.specs.NodeCalls.{Running}
use Rattle.group_world.specs.declared.event.Act.TheVariants as act
use Rattle.group_world.specs.declared.event.Done.TheVariants.{Applied}
use Rattle.group_world.specs.declared.event.Event.{Event}
use Rattle.group_world.specs.Event.{Goes, kept_event}
use Rattle.group_world.specs.Group.{IsUp, me_of, member_at, message_of, messages_in, new_world, World, world_state}
use Rattle.group_world.specs.Member.{Member, member_after_call}
use Rattle.group_world.specs.declared.event.Outcome.TheVariants.{Kept}
use Rattle.group_protocol.specs.Ranges.{IsHeardFit}
use Rattle.group_progress.specs.GoingOn.{HasRead, keys_waiting, waiting_of}
use Rattle.group_progress.specs.Fair.{Endless, WasSentTo, Later}
use Rattle.group_progress.specs.Stuck.{HasStuckRun, HearsAndTicks, IsLedOpenly, IsOpenAct}
use Rattle.group_world.proofs.WorldAsGroup.{changed_elsewhere, is_node, running}
use Rattle.group_progress.specs.Below.{EventLaws, TestLaws}
use Rattle.group_progress.proofs.FirstWorld.{IsFresh, TypedWorld, group_stays}
use Rattle.group_progress.proofs.Going.{Good, ends, fits_at, fits_me}
use Rattle.group_progress.proofs.Within.{leads_then}
use Rattle.group_progress.proofs.Headless.{IsHeadless, IsHeadlessBody, hears_headless, ticks_headless}
use Rattle.group_progress.proofs.Covered.{at_more}
use Rattle.group_progress.proofs.Hearing.{same_place}
use Rattle.group_progress.proofs.Moments.{one_running}
use Rattle.group_rules.proofs.Lists.{in_flat_map, in_from_place, in_range}
use Rattle.group_progress.proofs.Promising.{kept_place}
use Rattle.group_progress.proofs.Quiet.{Choice, Next, Quiet, allowed, calls, delivers_by, hears_so, idles_by, may_hear, pick, picks, ticks_so}
use Rattle.group_progress.proofs.Runs.{AtWith}
use Rattle.group_progress.proofs.SomeRun.{unread}
use Rattle.group_progress.proofs.Stages.{Stays, from_then}
use Rattle.group_progress.proofs.Sweeps.{comes, sweep}
use Rattle.group_progress.proofs.OldPrepare.{Campaigned, apart_true, beheads, count_others, empty_by, fresh_ballot, fresh_campaign, fresh_headless, of_rest, others_than, ours, rest, true_apart}

module _ (laws : EventLaws) (tests : TestLaws) (fronts : (learned : FinMap nat_cmp Value) → IsFront learned (front_of learned)) (p : Parts)
    (g : Group)
    (more : 1 < g.size) (typed : TypedWorld p g) where
  -- the world before the old campaign
  abbrev begin : World
  begin = typed.first.world

  -- it has three nodes or more
  big : 3 ≤ typed.first.world.group.size
  big =
      let same : typed.first.world.group.size ≡ g.size =
      ap (λ (x : Group). x.size) (group_stays (new_world p g) typed.first.events typed.first.world typed.first.leads) in
      let three : (k : ℕ) → 1 < k → k % 2 ≡ 1 → 3 ≤ k = λ k some odd. omega arith in
      three typed.first.world.group.size (omega (arith, same, more)) typed.first.good.holds.sound.size.odd

  -- and nine at most
  few : (i : ℕ) → IsNode typed.first.world.group.size i → i < 10
  few i node = omega (arith, node.1, typed.first.good.holds.sound.size.few)

  -- the first
  node_one : IsNode typed.first.world.group.size 1
  node_one = (omega arith, omega (arith, big))

  -- and the second
  node_two : IsNode typed.first.world.group.size 2
  node_two = (omega arith, omega (arith, big))

  -- the second node, which campaigns first
  two : AtWith (IsFresh (Unit {0})) typed.first.world 2
  two = typed.first.fresh 2 node_two

  -- it is up
  two_up : IsUp typed.first.world 2 two.node two.is_up.running
  two_up = record { there = two.there; up = two.is_up.up }

  -- its campaign happens
  second : Campaigned laws fronts typed.first.good 2 two_up two.is_up.holds (IsFresh (Unit {0})) ours typed.first.world.group
  second = fresh_campaign laws fronts typed.first.good 2 two_up two.is_up.holds (IsFresh (Unit {0})) ours typed.first.world.group refl
      (λ x among. absurd (typed.first.none x among)) node_two (λ j node mine other. typed.first.fresh j node) (λ no. absurd (cc no))

  -- the first world of the run
  abbrev first_of : World
  first_of = second.next.world

  -- what it has sent
  abbrev old_message : Msg
  old_message = record { sender = 2; body = Prepare (record { round = 1; node = 2 }) (front two.is_up.running.known) }

  -- which is there
  old_there : slice_get (world_state second.next.world).sent 0 ≡ Some
      (record { sender = 2; body = Prepare (record { round = 1; node = 2 }) (front two.is_up.running.known) })
  old_there =
      ap (λ (s : Sent). slice_get s 0) (second.sent
      ∙ ap (λ (s : Sent). s ++ messages_handed_out 2 (on_campaign two.is_up.running.known).sends)
      (empty_by (world_state typed.first.world).sent typed.first.none))
      ∙ ap (λ c. Some (record { sender = 2; body = Prepare c (front two.is_up.running.known) }))
      (fresh_ballot laws fronts typed.first.good 2 two_up two.is_up.holds)

  -- the leading node
  one : AtWith (IsFresh (Unit {0})) second.next.world 1
  one = second.next.quiet.nodes 1 node_one refl

  -- it is up
  one_up : IsUp second.next.world 1 one.node one.is_up.running
  one_up = record { there = one.there; up = one.is_up.up }

  -- its ballot is below the old one
  one_ballot : next_ballot one.is_up.running.known ≡ record { round = 1; node = 1 }
  one_ballot = fresh_ballot laws fronts second.next.quiet.good 1 one_up one.is_up.holds

  -- its campaign happens
  begun : Campaigned laws fronts second.next.quiet.good 1 one_up one.is_up.holds IsHeadless rest typed.first.world.group
  begun = fresh_campaign laws fronts second.next.quiet.good 1 one_up one.is_up.holds IsHeadless rest typed.first.world.group
      second.next.quiet.group
      second.next.quiet.said node_one (λ j node mine other. at_more fresh_headless (second.next.quiet.nodes j node (of_rest j mine)))
      (λ no. absurd (cc no))

  -- it hears the old Prepare
  abbrev leading : Running
  leading = record { known = (on_campaign one.is_up.running.known).node; progress = one.is_up.running.progress }

  -- it is up
  leads_up : IsUp begun.next.world 1 (member_after_call (on_campaign one.is_up.running.known) one.node.console one.is_up.running.progress)
      (record { known = (on_campaign one.is_up.running.known).node; progress = one.is_up.running.progress })
  leads_up = record { there = begun.there; up = refl }

  -- the old Prepare is still there
  still_there : slice_get (world_state begun.next.world).sent 0 ≡ Some old_message
  still_there = rw begun.sent (kept_place (world_state second.next.world).sent _ 0 old_message old_there)

  -- and is heard
  third : Next IsHeadless IsHeadlessBody ours typed.first.world.group begun.next.world (act.Deliver 0 1)
  third =
      let v = begun.next in
      let sound = running begun.next.quiet.good.holds.sound leads_up in
      let among = in_from_place (world_state begun.next.world).sent 0 old_message still_there in
      let heard : IsHeardFit (on_campaign one.is_up.running.known).node.me 2
      (Prepare (record { round = 1; node = 2 }) (front two.is_up.running.known)) =
      subst (λ me. IsHeardFit me 2 (Prepare (record { round = 1; node = 2 }) (front two.is_up.running.known))) (sym sound.me_is)
      (fits_at begun.next.world.group begun.next.world.sent old_message begun.next.quiet.good.holds.sound.spelled among) in
      let fits = fits_me begun.next.quiet.good.holds.sound leads_up (laws.fits_message (on_campaign one.is_up.running.known).node 2
      (Prepare (record { round = 1; node = 2 }) (front two.is_up.running.known)) sound.ranges heard) in
      let answer = beheads tests one.is_up.running.known one.is_up.holds one_ballot (front two.is_up.running.known) in
      calls IsHeadless IsHeadlessBody ours laws typed.first.world.group begun.next.quiet.good begun.next.quiet.group
      begun.next.quiet.said 1 node_one leads_up
      (λ j node mine other. begun.next.quiet.nodes j node (and_from (others_than 2 j) (others_than 1 j) mine (apart_true j 1 other)))
      (on_message (on_campaign one.is_up.running.known).node 2 (Prepare (record { round = 1; node = 2 }) (front two.is_up.running.known)))
      (act.Deliver 0 1) (deed.Hear old_message) refl (old_message, still_there, refl) (
        leading,
        refl,
        ends (me_of begun.next.world 1) _ one.is_up.running.progress
            (on_message (on_campaign one.is_up.running.known).node 2
            (Prepare (record { round = 1; node = 2 }) (front two.is_up.running.known))),
      )
      fits (λ mine. answer.0) answer.1

  -- ---- the run

  -- all is heard, by all nodes but the second
  abbrev choice : Choice
  choice = record { hears = λ body. true; node = λ i. if i == 2 then 1 else i; idle = λ i. act.Tick i }

  -- a world of the run after that
  record Moment : Type 0 where
    pub world : World
    pub quiet : Quiet IsHeadless IsHeadlessBody ours typed.first.world.group world

  -- these are nodes that take part
  chosen : (i : ℕ) → IsNode typed.first.world.group.size i
      → IsNode typed.first.world.group.size (if i == 2 then 1 else i) × IsTrue (ours (if i == 2 then 1 else i))
  chosen i node = by (i == 2) refl where
    by : (x : Bool) → (i == 2) ≡ x → IsNode typed.first.world.group.size (if x then 1 else i) × IsTrue (ours (if x then 1 else i))
    by true e = (node_one, refl)
    by false e = (node, ap not e)

  -- the next one
  next_of : (x : Moment) (c : ℕ)
      → Next IsHeadless IsHeadlessBody ours typed.first.world.group x.world
      (pick choice typed.first.world.group.size (world_state x.world).sent c)
  next_of x c = picks IsHeadless IsHeadlessBody ours laws typed.first.world.group x.quiet choice
      (λ i node own. ticks_so IsHeadless IsHeadlessBody ours laws typed.first.world.group x.quiet i node own ticks_headless)
      (λ k i m node own there may. hears_so IsHeadless IsHeadlessBody ours laws typed.first.world.group x.quiet k i m node own there
      (λ n h. hears_headless n m.sender m.body h (x.quiet.said m (in_from_place (world_state x.world).sent k m there)))) chosen c
      (omega (arith, big))

  -- the worlds, one after another
  abbrev moment : ℕ → Moment
  moment zero = record { world = third.world; quiet = third.quiet }
  moment (suc n) = record { world = (next_of (moment n) (sweep n).at).world; quiet = (next_of (moment n) (sweep n).at).quiet }

  -- the event at each moment
  abbrev event_at : ℕ → Event
  event_at zero = kept_event (act.Campaign 1)
  event_at (suc zero) = kept_event (act.Deliver 0 1)
  event_at (suc (suc n)) = kept_event (pick choice typed.first.world.group.size (world_state (moment n).world).sent (sweep n).at)

  -- the world before it
  abbrev world_at : ℕ → World
  world_at zero = second.next.world
  world_at (suc zero) = begun.next.world
  world_at (suc (suc n)) = (moment n).world

  -- each event happens
  goes_at : (n : ℕ) → Goes (world_at n) (event_at n) Applied (world_at (suc n))
  goes_at zero = begun.next.goes
  goes_at (suc zero) = third.goes
  goes_at (suc (suc n)) = (next_of (moment n) (sweep n).at).goes

  -- the run
  abbrev run : Endless second.next.world
  run = record { event = event_at; done = λ n. Applied; world = world_at; begins = refl; goes = goes_at }

  -- all that is said is headless, and each world is good
  said_at : (n : ℕ) (m : Msg) → Contains (world_state (world_at n)).sent m → IsHeadlessBody m.body
  said_at zero m among = second.next.quiet.said m among
  said_at (suc zero) m among = begun.next.quiet.said m among
  said_at (suc (suc n)) m among = (moment n).quiet.said m among

  -- each world is good
  good_at : (n : ℕ) → Good (world_at n)
  good_at zero = second.next.quiet.good
  good_at (suc zero) = begun.next.quiet.good
  good_at (suc (suc n)) = (moment n).quiet.good

  -- the group stays
  group_at : (n : ℕ) → (world_at n).group ≡ typed.first.world.group
  group_at zero = second.next.quiet.group
  group_at (suc zero) = begun.next.quiet.group
  group_at (suc (suc n)) = (moment n).quiet.group

  -- it is led, but for the old Prepare
  run_led : IsLedOpenly ours 1 (record { round = 1; node = 1 }) second.next.world run
  run_led = record {
    node = subst (λ (g : Group). IsNode g.size 1) (sym second.next.quiet.group) node_one;
    own = refl;
    campaigns = refl;
    happens = refl;
    up = λ i node mine. let f = second.next.quiet.nodes i (own_node i node) mine in
        (f.node, f.is_up.running, record { there = f.there; up = f.is_up.up });
    ballot = λ m q is_up.
        let same : one.is_up.running ≡ q = one_running one_up is_up in
        subst (λ (q : Running). next_ballot q.known ≡ record { round = 1; node = 1 }) same one_ballot;
    above = λ i m mine there. low i m mine there;
    kept = λ n mine. kept_so n;
    old = record {
      number = 0;
      message = old_message;
      ballot = record { round = 1; node = 2 };
      first = front two.is_up.running.known;
      there = old_there;
      body = refl;
      above = inr (refl, omega arith);
      heard = refl;
    };
    peace = λ n mine. peace_so n;
    room = λ n s c v said. absurd (said_at n _ said.1);
  } where
    own_node : (i : ℕ) → IsNode second.next.world.group.size i → IsNode typed.first.world.group.size i
    own_node i node = subst (λ (g : Group). IsNode g.size i) second.next.quiet.group node

    low : (i : ℕ) (m : Member) → IsTrue (ours i) → member_at second.next.world.members i ≡ Some m
        → IfSome m.kept.promised (λ p. IsAtMost p (record { round = 1; node = 1 }))
    low i m mine there =
        let f = second.next.quiet.nodes i (own_node i (is_node i second.next.quiet.good.holds.sound there)) mine in
        let same : f.node ≡ m = cc (sym f.there ∙ there) in
        let kept = (running second.next.quiet.good.holds.sound (record { there = f.there; up = f.is_up.up })).kept_is in
        let promised : m.kept.promised ≡ None =
        ap (λ (m : Member). m.kept.promised) (sym same) ∙ ap (λ (r : Record). r.promised) (sym kept) ∙ f.is_up.holds.promised in
        rw promised tt

    kept_so : (n : ℕ) → (event_at (suc n)).save ≡ Kept
    kept_so zero = refl
    kept_so (suc n) = refl

    peace_so : (n : ℕ) → IsOpenAct (event_at (suc n)).act
    peace_so zero = tt
    peace_so (suc n) = allowed IsOpenAct choice (world_state (moment n).world).sent (λ i. tt)
        (λ k i m there. tt) typed.first.world.group.size (sweep n).at

  -- what was sent stays sent
  message_stays : (k : ℕ) (m : Msg) → Stays (λ n. slice_get (world_state (world_at n)).sent k ≡ Some m)
  message_stays k m n e =
      let does = (goes_at n).does in
      let grows : (world_state (world_at (suc n))).sent ≡ (world_state (world_at n)).sent ++ messages_in (world_at n).group does.left.sent =
      ap (λ (v : World). (world_state v).sent) does.leads ∙ filter_map-append _ (world_at n).sent does.left.sent in
      rw grows (kept_place (world_state (world_at n)).sent _ k m e)

  -- each node that takes part is chosen itself
  own_choice : (i : ℕ) → IsTrue (ours i) → (if i == 2 then 1 else i) ≡ i
  own_choice i mine = let test : (i == 2) ≡ false = true_apart i 2 mine in rw test refl

  -- each ticks again
  ticks_later : (n i : ℕ) → IsNode typed.first.world.group.size i → IsTrue (ours i) → Later n (λ t. (event_at t).act ≡ act.Tick i)
  ticks_later n i node mine =
      let (t, less, at) = comes (0 * 10 + i) n in (
        suc (suc t),
        omega (arith, less),
        ap (pick choice typed.first.world.group.size (world_state (moment t).world).sent) at
            ∙ idles_by choice typed.first.world.group.size (world_state (moment t).world).sent i node (own_choice i mine) (few i node),
      )

  -- and hears each message again
  hears_later : (n k i : ℕ) (m : Msg) → IsNode typed.first.world.group.size i → IsTrue (ours i) → WasSentTo ours run n k i m
      → Later n (λ t. (event_at t).act ≡ act.Deliver k i)
  hears_later n k i m node mine way =
      let there = same_place (world_at n).group (world_at n).sent (good_at n).holds.sound.spelled k way.datagram m way.there
      (subst (λ (g : Group). message_of g way.datagram ≡ Some m) (second.next.quiet.group ∙ sym (group_at n)) way.spells) in
      let (t, less, at) = comes (suc k * 10 + i) n in
      let still = from_then (λ n. slice_get (world_state (world_at n)).sent k ≡ Some m) (message_stays k m) n (suc (suc t))
      (omega (arith, less)) there in
      let may : may_hear (λ body. true) (slice_get (world_state (moment t).world).sent k) ≡ true = ap (may_hear (λ body. true)) still in (
        suc (suc t),
        omega (arith, less),
        ap (pick choice typed.first.world.group.size (world_state (moment t).world).sent) at
            ∙ delivers_by choice typed.first.world.group.size (world_state (moment t).world).sent k i node (own_choice i mine)
            (few i node) may,
      )

  -- no node of the majority ever reads the key
  never : (t i : ℕ) → IsTrue (ours i) → HasRead (typed.key ∷ []) (world_at t) i → ⊥
  never t i mine h =
      unread typed.key h.running.known (nothing t i mine h.node h.running h.up) (h.read typed.key (first_in typed.key [])) where
        nothing : (t i : ℕ) → IsTrue (ours i) → (m : Member) (q : Running) → IsUp (world_at t) i m q → (s : ℕ)
            → get q.known.learner.learned s ≡ None
        nothing zero i mine m q up =
            let f = second.next.quiet.nodes i
            (subst (λ (g : Group). IsNode g.size i) second.next.quiet.group
            (is_node i second.next.quiet.good.holds.sound up.there)) mine in
            let same : f.is_up.running ≡ q = one_running (record { there = f.there; up = f.is_up.up }) up in
            subst (λ (q : Running). (s : ℕ) → get q.known.learner.learned s ≡ None) same f.is_up.holds.learned
        nothing (suc zero) i mine m q up = elim (cases_eq i 1) [
          | inl is ↦
              let same : leading ≡ q = one_running leads_up (subst (λ i. IsUp begun.next.world i m q) is up) in
              subst (λ (q : Running). (s : ℕ) → get q.known.learner.learned s ≡ None) same one.is_up.holds.learned
          | inr other ↦
              let f = begun.next.quiet.nodes i
              (subst (λ (g : Group). IsNode g.size i) begun.next.quiet.group (is_node i begun.next.quiet.good.holds.sound up.there))
              (and_from (others_than 2 i) (others_than 1 i) mine (apart_true i 1 other)) in
              let same : f.is_up.running ≡ q = one_running (record { there = f.there; up = f.is_up.up }) up in
              subst (λ (q : Running). (s : ℕ) → get q.known.learner.learned s ≡ None) same f.is_up.holds.learned
        ]
        nothing (suc (suc n)) i mine m q up =
            let x = (moment n).quiet in
            let f = x.nodes i (subst (λ (g : Group). IsNode g.size i) x.group (is_node i x.good.holds.sound up.there)) mine in
            let same : f.is_up.running ≡ q = one_running (record { there = f.there; up = f.is_up.up }) up in
            subst (λ (q : Running). (s : ℕ) → get q.known.learner.learned s ≡ None) same f.is_up.holds.learned

  -- the key waits at the leading node
  waits_there : Contains (keys_waiting ours second.next.world) typed.key
  waits_there =
      let does = second.next.goes.does in
      let same : member_at second.next.world.members 1 ≡ member_at typed.first.world.members 1 =
      ap (λ (v : World). member_at v.members 1) does.leads
      ∙ changed_elsewhere typed.first.world.members 2 1 does.node does.left.member does.there (λ no. absurd (cc no)) in
      in_flat_map (λ i. if ours i then waiting_of (member_at second.next.world.members i) else [])
      (range_with_len 1 second.next.world.group.size) 1
      typed.key (in_range 1 second.next.world.group.size 1 (omega arith)
      (subst (λ (g : Group). 1 < 1 + g.size) (sym second.next.quiet.group) (omega (arith, big))))
      (subst (λ o. Contains (waiting_of o) typed.key) (sym same) typed.at_first)

  -- so the run is stuck
  pub run_without_peace : HasStuckRun IsLedOpenly HearsAndTicks p g
  run_without_peace = record {
    events = typed.first.events ++ kept_event (act.Campaign 2) ∷ [];
    world = second.next.world;
    members = ours;
    leader = 1;
    ballot = record { round = 1; node = 1 };
    run = run;
    leads = leads_then (new_world p g) typed.first.events
        (kept_event (act.Campaign 2) ∷ []) typed.first.world second.next.world typed.first.leads
        (second.next.world, Applied, second.next.goes, refl);
    majority = most;
    led = run_led;
    heard = record {
      fair = record {
        ticks = λ n i node mine. ticks_later n i (own_node i node) mine;
        hears = λ n k i m node mine way. hears_later (suc n) k i m (own_node i node) mine way.sent;
      };
      hears = record { hears = λ n k i m node mine way. hears_later n k i m (own_node i node) mine way };
    };
    key = typed.key;
    waits = waits_there;
    unread = never;
  } where
    own_node : (i : ℕ) → IsNode second.next.world.group.size i → IsNode typed.first.world.group.size i
    own_node i node = subst (λ (g : Group). IsNode g.size i) second.next.quiet.group node

    most : IsMajority second.next.world.group.size ours
    most = subst (λ (g : Group). IsMajority g.size ours) (sym second.next.quiet.group) (by typed.first.world.group.size big) where
      by : (n : ℕ) → 3 ≤ n → IsMajority n ours
      by zero low = absurd (omega (arith, low))
      by (suc zero) low = absurd (omega (arith, low))
      by (suc (suc n)) low = omega (arith, low, count_others n)
