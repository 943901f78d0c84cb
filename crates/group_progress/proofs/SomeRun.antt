-- There is a run that is led and fair, and there are runs that are stuck since a premise is missing.
use Rattle.std.proofs.Common.{not, ◌≡◌, ◌≢◌, ◌∙◌, ℕ, zero, suc, ◌+◌, ◌*◌, ◌<◌, Contains, [], ◌∷◌, ◌++◌, slice_get, Some, None, IfSome, is_some, refl, sym, ap, subst, arith, true, false}
use Rattle.std.specs.FinMap.{FinMap, get}
use Rattle.std.specs.Ordering.{nat_cmp}
use Rattle.pcode_file.specs.Parts.{Parts}
use Rattle.paxos_msg.specs.declared.ballot.Ballot.{Ballot}
use Rattle.paxos_msg.specs.declared.limits.TheConstants.{LAST_ROUND, PLACES}
use Rattle.paxos_msg.specs.declared.message.Group.{Group}
use Rattle.paxos_msg.specs.declared.value.Value.{Value}
use Rattle.paxos_msg.specs.Ballots.{IsAtMost, IsMajority}
use Rattle.paxos_msg.specs.Batches.{Msg, Record, Sent, Body}
use Rattle.paxos_msg.specs.Fits.{IsNode}
use Rattle.paxos_msg.specs.Messages.{IsSaid}
use Rattle.paxos_msg.specs.declared.message.Body.TheVariants.{Accept, Prepare, Promise, Accepted, Refused, Submit, Ask, Tell}
use Rattle.paxos_acceptor.specs.declared.me.Me.{Me}
use Rattle.paxos_learner.specs.Learner.{IsFront, front_of}
use Rattle.paxos_proposer.specs.Proposer.{greatest_round}
use Rattle.group_protocol.proofs.Elements.{none_in, first_in}
use Rattle.group_protocol.specs.Known.{Known, front}
use Rattle.group_protocol.specs.ProposerResponses.{last_round, next_ballot, on_campaign}
use Rattle.group_node.specs.Deeds as deed
use Rattle.group_node.specs.NodeCalls.{Makes, Running, call_of_campaign}
use Rattle.group_world.specs.declared.event.Act.TheVariants as act
use Rattle.group_world.specs.declared.event.Done.TheVariants.{Applied}
use Rattle.group_world.specs.declared.event.Event.{Event}
use Rattle.group_world.specs.Event.{Goes, kept_event}
use Rattle.group_world.specs.Group.{IsUp, me_of, member_at, World, world_state, message_of, messages_in}
use Rattle.group_world.specs.Member.{Member}
use Rattle.group_progress.specs.GoingOn.{HasRead}
use Rattle.group_progress.specs.Fair.{Endless, HasFairRun, IsLed, Later, IsCalmAct, WasSentTo}
use Rattle.group_world.proofs.WorldAsGroup.{is_node, running}
use Rattle.group_progress.specs.Below.{EventLaws, TestLaws}
use Rattle.group_progress.proofs.Going.{Good, ends, fits_me, lt_apart, lt_true}
use Rattle.group_progress.proofs.Moments.{one_running}
use Rattle.group_progress.proofs.Promising.{kept_place}
use Rattle.group_progress.proofs.Runs.{AtWith}
use Rattle.group_progress.proofs.Silent.{IsSilent, IsSilentBody, campaigns_silent, is_submit, no_images, none_submitted}
use Rattle.group_progress.proofs.SilentRun.{NextSilent, QuietSilent, hears_on, silent_calm, ticks_on}
use Rattle.group_progress.proofs.Quiet.{Choice, allowed, calls, delivers_by, everyone, idles_by, may_hear, pick, picks, releases_on}
use Rattle.group_progress.proofs.Stages.{Stays, from_then}
use Rattle.group_progress.proofs.Sweeps.{comes, sweep}
use Rattle.std.specs.List.{range_with_len}
use Rattle.std.proofs.lemmas.List.Elements.{filter_map-append}
use Rattle.paxos_msg.specs.Keys.{Key}
use Rattle.paxos_learner.specs.Input.{front_values, keys_in_order}
use Rattle.group_world.specs.declared.event.Act.{Act}
use Rattle.group_progress.specs.Stuck.{HasStuckRun, HearsAll, HearsAllButSubmits, IsLedCalmly}
use Rattle.group_progress.proofs.FirstWorld.{FirstWorld, IsFresh, TypedWorld, count_all, fresh_silent}
use Rattle.group_progress.proofs.Hearing.{same_place}
use Rattle.group_rules.proofs.Lists.{in_from_place}
use Rattle.group_progress.proofs.Reading.{HasKey}

-- a node that has learned nothing has read nothing
pub unread : (key : Key) (n : Known) → ((s : ℕ) → get n.learner.learned s ≡ None) → HasKey n key → ⊥
unread key n none has =
    let nothing : front_values n.learner.learned ≡ [] =
    no_images (get n.learner.learned) (range_with_len 0 (front_of n.learner.learned)) none in
    none_in key (subst (λ values. Contains (keys_in_order values) key) nothing has)

-- what is no Submit
no_submit : (body : Body) → ((v : Value) → body ≢ Submit v) → is_submit body ≡ false
no_submit (Prepare c from) other = refl
no_submit (Promise c first upto votes) other = refl
no_submit (Accept c s v) other = refl
no_submit (Accepted c s v) other = refl
no_submit (Refused c promised) other = refl
no_submit (Submit v) other = absurd (other v refl)
no_submit (Ask from) other = refl
no_submit (Tell s v) other = refl

-- ---- one campaigns

-- what the nodes do where no message is meant
pub record Idling (S W : Type 0) : Type 0 where
  pub act : ℕ → Act
  pub calm : (b : Ballot) (sent : Sent) (i : ℕ) → IsCalmAct b sent (act i)
  pub goes : (b : Ballot) (g : Group) (v : World) → QuietSilent S W b g v → (i : ℕ) → IsNode g.size i → NextSilent S W b g v (act i)

-- all is heard but Submits, by all nodes
abbrev pub choice_of : (ℕ → Act) → Choice
choice_of idle = record { hears = λ body. not (is_submit body); node = λ i. i; idle = idle }

module _ (S W : Type 0) (idling : Idling S W) (laws : EventLaws) (tests : TestLaws)
    (fronts : (learned : FinMap nat_cmp Value) → IsFront learned (front_of learned)) (w : World) (good : Good w)
    (none : (m : Msg) → Contains (world_state w).sent m → ⊥) (fresh : (i : ℕ) → IsNode w.group.size i → AtWith (IsFresh W) w i) where
  -- there is a node
  some : 0 < w.group.size
  some = omega (arith, good.holds.sound.size.odd)

  -- and there are at most nine
  few : (i : ℕ) → IsNode w.group.size i → i < 10
  few i node = omega (arith, node.1, good.holds.sound.size.few)

  -- the first of them
  first_node_is : IsNode w.group.size 1
  first_node_is = (omega arith, omega (arith, some))

  -- it has learned nothing
  first_front : (n : Known) → IsFresh W n → front n ≡ 0
  first_front n h = by (front n) refl where
    by : (k : ℕ) → front n ≡ k → front n ≡ 0
    by zero e = e
    by (suc k) e =
        let there = (fronts n.learner.learned).below 0 (omega (arith, e)) in
        let no : false ≡ true = ap is_some (sym (h.learned 0)) ∙ there in absurd cc

  -- nor heard of a round
  first_round : (n : Known) → IsFresh W n → last_round n ≡ 0
  first_round n h = ap (λ o. greatest_round o n.remembered) h.promised ∙ ap (greatest_round None) h.remembered

  -- so this is its ballot
  first_ballot : {m : Member} {q : Running} → IsUp w 1 m q → IsFresh W q.known → next_ballot q.known ≡ record { round = 1; node = 1 }
  first_ballot {m} {q} is_up h =
      let round = first_round q.known h in
      let node : q.known.me.node ≡ 1 = ap (λ (me : Me). me.node) (running good.holds.sound is_up).me_is in
      ap (λ (k : ℕ). record { round = k + 1; node = q.known.me.node }) round ∙ ap (λ (k : ℕ). record { round = 1; node = k }) node

  -- its campaign happens
  pub begun : NextSilent S W (record { round = 1; node = 1 }) w.group w (act.Campaign 1)
  begun =
      let at = fresh 1 first_node_is in
      let q : Running = at.is_up.running in
      let is_up : IsUp w 1 at.node at.is_up.running = record { there = at.there; up = at.is_up.up } in
      let round = first_round at.is_up.running.known at.is_up.holds in
      let place = first_front at.is_up.running.known at.is_up.holds in
      let spare = lt_true (last_round at.is_up.running.known) LAST_ROUND (omega (arith, round)) in
      let left = lt_apart (front at.is_up.running.known) PLACES (omega (arith, place)) in
      let call : call_of_campaign at.is_up.running.known ≡ Makes (on_campaign at.is_up.running.known) [] = rw (spare, left) refl in
      let fits = fits_me good.holds.sound is_up
      (laws.fits_campaign at.is_up.running.known (running good.holds.sound is_up).ranges (omega (arith, round))
      (omega (arith, place))) in
      let answers = campaigns_silent S W tests (record { round = 1; node = 1 }) at.is_up.running.known (first_ballot is_up at.is_up.holds)
      (fresh_silent W _ _ at.is_up.holds) in
      calls (IsSilent W (record { round = 1; node = 1 })) (IsSilentBody S (record { round = 1; node = 1 })) everyone laws w.group good refl
      (λ message among. absurd (none message among)) 1 first_node_is is_up
      (λ j of mine other. let f = fresh j of in record {
        node = f.node;
        there = f.there;
        is_up = record { running = f.is_up.running; up = f.is_up.up; holds = fresh_silent W _ _ f.is_up.holds };
      })
      (on_campaign at.is_up.running.known) (act.Campaign 1) deed.Campaign refl refl (
        at.is_up.running,
        at.is_up.up,
        rw call
            (ends (me_of w 1) at.node at.is_up.running.progress (on_campaign at.is_up.running.known)),
      ) fits (λ own. answers.0) answers.1

  -- ---- the run

  -- a world of the run after the campaign
  pub record Moment : Type 0 where
    pub world : World
    pub quiet : QuietSilent S W (record { round = 1; node = 1 }) w.group world

  -- the next one
  pub next_of : (x : Moment) (c : ℕ) → NextSilent S W (record { round = 1; node = 1 }) w.group x.world
      (pick (choice_of idling.act) w.group.size (world_state x.world).sent c)
  next_of x c =
      picks (IsSilent W (record { round = 1; node = 1 })) (IsSilentBody S (record { round = 1; node = 1 })) everyone laws w.group x.quiet
      (choice_of idling.act) (λ i node own. idling.goes (record { round = 1; node = 1 }) w.group x.world x.quiet i node)
      (λ k i m node own there may. hears_on S W laws tests (record { round = 1; node = 1 }) w.group x.quiet k i m node there may)
      (λ i node. (node, refl)) c some

  -- the worlds, one after another
  abbrev pub moment : ℕ → Moment
  moment zero = record { world = begun.world; quiet = begun.quiet }
  moment (suc n) = record { world = (next_of (moment n) (sweep n).at).world; quiet = (next_of (moment n) (sweep n).at).quiet }

  -- the event at each moment
  abbrev pub event_at : ℕ → Event
  event_at zero = kept_event (act.Campaign 1)
  event_at (suc n) = kept_event (pick (choice_of idling.act) w.group.size (world_state (moment n).world).sent (sweep n).at)

  -- the world before it
  abbrev pub world_at : ℕ → World
  world_at zero = w
  world_at (suc n) = (moment n).world

  -- each event happens
  pub goes_at : (n : ℕ) → Goes (world_at n) (event_at n) Applied (world_at (suc n))
  goes_at zero = begun.goes
  goes_at (suc n) = (next_of (moment n) (sweep n).at).goes

  -- the run
  abbrev pub run : Endless w
  run = record { event = event_at; done = λ n. Applied; world = world_at; begins = refl; goes = goes_at }

  -- it is led
  pub run_led : IsLed everyone 1 (record { round = 1; node = 1 }) run
  run_led = record {
    node = first_node_is;
    own = refl;
    campaigns = refl;
    happens = refl;
    up = λ i node own. let f = fresh i node in (f.node, f.is_up.running, record { there = f.there; up = f.is_up.up });
    ballot = λ m q is_up.
        let f = fresh 1 first_node_is in
        let same : f.is_up.running ≡ q = one_running (record { there = f.there; up = f.is_up.up }) is_up in
        first_ballot is_up (subst (λ (q : Running). IsFresh W q.known) same f.is_up.holds);
    above = λ i m own there. low i m there;
    calm = λ n. record {
      kept = λ own. refl;
      calm = λ own. allowed (IsCalmAct (record { round = 1; node = 1 }) (world_state (moment n).world).sent) (choice_of idling.act)
          (world_state (moment n).world).sent (idling.calm (record { round = 1; node = 1 }) (world_state (moment n).world).sent)
          (λ k i m there message at. silent_calm S (record { round = 1; node = 1 }) message.body
          ((moment n).quiet.said message (in_from_place (world_state (moment n).world).sent k message at))) w.group.size (sweep n).at;
    };
    room = λ n s c v said. absurd (unsaid n c s v said);
  } where
    low : (i : ℕ) (m : Member) → member_at w.members i ≡ Some m → IfSome m.kept.promised (λ p. IsAtMost p (record { round = 1; node = 1 }))
    low i m there =
        let f = fresh i (is_node i good.holds.sound there) in
        let same : f.node ≡ m = cc (sym f.there ∙ there) in
        let kept = (running good.holds.sound (record { there = f.there; up = f.is_up.up })).kept_is in
        let promised : m.kept.promised ≡ None = ap (λ (m : Member). m.kept.promised) (sym same) ∙ ap (λ (r : Record). r.promised)
        (sym kept) ∙ f.is_up.holds.promised in
        rw promised tt

    unsaid : (n : ℕ) (c : Ballot) (s : ℕ) (v : Value) → IsSaid (world_state (world_at n)).sent (Accept c s v) → ⊥
    unsaid zero c s v said = none _ said.1
    unsaid (suc n) c s v said = (moment n).quiet.said _ said.1

  -- each world of the run is good
  good_moment : (n : ℕ) → Good (world_at n)
  good_moment zero = good
  good_moment (suc n) = (moment n).quiet.good

  -- the group stays
  group_is : (n : ℕ) → (world_at n).group ≡ w.group
  group_is zero = refl
  group_is (suc n) = (moment n).quiet.group

  -- what was sent stays sent
  message_stays : (k : ℕ) (m : Msg) → Stays (λ n. slice_get (world_state (world_at n)).sent k ≡ Some m)
  message_stays k m n e =
      let does = (goes_at n).does in
      let more : (world_state (world_at (suc n))).sent ≡ (world_state (world_at n)).sent ++ messages_in (world_at n).group does.left.sent =
      ap (λ (v : World). (world_state v).sent) does.leads ∙ filter_map-append _ (world_at n).sent does.left.sent in
      rw more (kept_place (world_state (world_at n)).sent _ k m e)

  -- each node does its own again
  pub idles_later : (n i : ℕ) → IsNode w.group.size i → Later n (λ t. (event_at t).act ≡ idling.act i)
  idles_later n i node =
      let (t, less, at) = comes (0 * 10 + i) n in (
        suc t,
        omega (arith, less),
        ap (pick (choice_of idling.act) w.group.size (world_state (moment t).world).sent) at
            ∙ idles_by (choice_of idling.act) w.group.size (world_state (moment t).world).sent i node refl (few i node),
      )

  -- the message of a datagram
  pub message_there : (n k i : ℕ) (m : Msg) → WasSentTo everyone run n k i m → slice_get (world_state (world_at n)).sent k ≡ Some m
  message_there n k i m way =
      same_place (world_at n).group (world_at n).sent (good_moment n).holds.sound.spelled k way.datagram m way.there
      (subst (λ (g : Group). message_of g way.datagram ≡ Some m) (sym (group_is n)) way.spells)

  -- each message that is no Submit is heard again
  pub hears_later : (n k i : ℕ) (m : Msg) → IsNode w.group.size i → WasSentTo everyone run n k i m → is_submit m.body ≡ false
      → Later n (λ t. (event_at t).act ≡ act.Deliver k i)
  hears_later n k i m node way none =
      let (t, less, at) = comes (suc k * 10 + i) n in
      let still = from_then (λ n. slice_get (world_state (world_at n)).sent k ≡ Some m) (message_stays k m) n (suc t) (omega (arith, less))
      (message_there n k i m way) in
      let may : may_hear (λ body. not (is_submit body)) (slice_get (world_state (moment t).world).sent k) ≡ true =
      ap (may_hear (λ body. not (is_submit body))) still ∙ ap not none in (
        suc t,
        omega (arith, less),
        ap (pick (choice_of idling.act) w.group.size (world_state (moment t).world).sent) at
            ∙ delivers_by (choice_of idling.act) w.group.size (world_state (moment t).world).sent k i node refl (few i node) may,
      )

  -- what is said is silent
  pub said_silent : (n k i : ℕ) (m : Msg) → WasSentTo everyone run n k i m → IsSilentBody S (record { round = 1; node = 1 }) m.body
  said_silent zero k i m way = absurd (none m (in_from_place (world_state w).sent k m (message_there zero k i m way)))
  said_silent (suc n) k i m way =
      (moment n).quiet.said m (in_from_place (world_state (moment n).world).sent k m (message_there (suc n) k i m way))

  -- no node ever reads a key
  pub never_read : (key : Key) (t i : ℕ) → HasRead (key ∷ []) (world_at t) i → ⊥
  never_read key zero i h =
      let f = fresh i (is_node i good.holds.sound h.up.there) in
      let same : f.is_up.running ≡ h.running = one_running (record { there = f.there; up = f.is_up.up }) h.up in
      unread key h.running.known (subst (λ (q : Running). (s : ℕ) → get q.known.learner.learned s ≡ None) same f.is_up.holds.learned)
      (h.read key (first_in key []))
  never_read key (suc t) i h =
      let x = (moment t).quiet in
      let node = subst (λ (g : Group). IsNode g.size i) x.group (is_node i x.good.holds.sound h.up.there) in
      let f = x.nodes i node refl in
      let same : f.is_up.running ≡ h.running = one_running (record { there = f.there; up = f.is_up.up }) h.up in
      unread key h.running.known (subst (λ (q : Running). (s : ℕ) → get q.known.learner.learned s ≡ None) same f.is_up.holds.learned)
      (h.read key (first_in key []))

-- ---- the runs

-- each node ticks
abbrev ticking : (S W : Type 0) → (W → S) → EventLaws → TestLaws → Idling S W
ticking S W speaks laws tests = record {
  act = λ i. act.Tick i;
  calm = λ b sent i. tt;
  goes = λ b g v quiet i node. ticks_on S W laws tests b g quiet speaks i node;
}

-- each node releases, and never ticks
abbrev releasing : EventLaws → TestLaws → Idling ⊥ (Unit {0})
releasing laws tests = record {
  act = λ i. act.Release i;
  calm = λ b sent i. tt;
  goes = λ b g v quiet i node. releases_on (IsSilent (Unit {0}) b) (IsSilentBody ⊥ b) everyone laws g quiet i node refl;
}

module _ (laws : EventLaws) (tests : TestLaws) (fronts : (learned : FinMap nat_cmp Value) → IsFront learned (front_of learned)) (p : Parts)
    (g : Group) where
  -- all nodes are a majority
  majority_is : (W : Type 0) (first : FirstWorld W p g) → IsMajority first.world.group.size everyone
  majority_is W first = omega (arith, count_all first.world.group.size, first.good.holds.sound.size.odd)

  -- the run from a first world
  abbrev run_of : (S W : Type 0) → Idling S W → (first : FirstWorld W p g) → Endless first.world
  run_of S W idling first = run S W idling laws tests fronts first.world first.good first.none first.fresh

  -- it is led
  led_of : (S W : Type 0) (idling : Idling S W) (first : FirstWorld W p g)
      → IsLed everyone 1 (record { round = 1; node = 1 }) (run_of S W idling first)
  led_of S W idling first = run_led S W idling laws tests fronts first.world first.good first.none first.fresh

  -- what the nodes do again and again
  idles_of : (S W : Type 0) (idling : Idling S W) (first : FirstWorld W p g) (n i : ℕ) → IsNode first.world.group.size i
      → Later n (λ t. ((run_of S W idling first).event t).act ≡ idling.act i)
  idles_of S W idling first = idles_later S W idling laws tests fronts first.world first.good first.none first.fresh

  -- what they hear
  hears_of : (S W : Type 0) (idling : Idling S W) (first : FirstWorld W p g) (n k i : ℕ) (m : Msg) → IsNode first.world.group.size i
      → WasSentTo everyone (run_of S W idling first) n k i m → is_submit m.body ≡ false
      → Later n (λ t. ((run_of S W idling first).event t).act ≡ act.Deliver k i)
  hears_of S W idling first = hears_later S W idling laws tests fronts first.world first.good first.none first.fresh

  -- where no Submit is said, all
  hears_all : (W : Type 0) (idling : Idling ⊥ W) (first : FirstWorld W p g) (n k i : ℕ) (m : Msg) → IsNode first.world.group.size i
      → WasSentTo everyone (run_of ⊥ W idling first) n k i m → Later n (λ t. ((run_of ⊥ W idling first).event t).act ≡ act.Deliver k i)
  hears_all W idling first n k i m node way =
      hears_of ⊥ W idling first n k i m node way (none_submitted (record { round = 1; node = 1 }) m.body
      (said_silent ⊥ W idling laws tests fronts first.world first.good first.none first.fresh n k i m way))

  -- a key is never read
  unread_of : (S W : Type 0) (idling : Idling S W) (first : FirstWorld W p g) (key : Key) (t i : ℕ)
      → HasRead (key ∷ []) ((run_of S W idling first).world t) i → ⊥
  unread_of S W idling first = never_read S W idling laws tests fronts first.world first.good first.none first.fresh

  -- one that is led and fair
  pub some_run : FirstWorld ⊥ p g → HasFairRun p g
  some_run first = record {
    events = first.events;
    world = first.world;
    members = everyone;
    leader = 1;
    ballot = record { round = 1; node = 1 };
    run = run_of ⊥ ⊥ (ticking ⊥ ⊥ (λ x. x) laws tests) first;
    leads = first.leads;
    majority = majority_is ⊥ first;
    led = led_of ⊥ ⊥ (ticking ⊥ ⊥ (λ x. x) laws tests) first;
    fair = record {
      ticks = λ n i node own. idles_of ⊥ ⊥ (ticking ⊥ ⊥ (λ x. x) laws tests) first n i node;
      hears = λ n k i m node own way. hears_all ⊥ (ticking ⊥ ⊥ (λ x. x) laws tests) first (suc n) k i m node way.sent;
    };
  }

  -- one that is led and in which all is heard, but nobody ticks
  pub run_without_ticks : TypedWorld p g → HasStuckRun IsLedCalmly HearsAll p g
  run_without_ticks typed = record {
    events = typed.first.events;
    world = typed.first.world;
    members = everyone;
    leader = 1;
    ballot = record { round = 1; node = 1 };
    run = run_of ⊥ (Unit {0}) (releasing laws tests) typed.first;
    leads = typed.first.leads;
    majority = majority_is (Unit {0}) typed.first;
    led = led_of ⊥ (Unit {0}) (releasing laws tests) typed.first;
    heard = record { hears = λ n k i m node own way. hears_all (Unit {0}) (releasing laws tests) typed.first n k i m node way };
    key = typed.key;
    waits = typed.waits;
    unread = λ t i own. unread_of ⊥ (Unit {0}) (releasing laws tests) typed.first typed.key t i;
  }

  -- one that is led, in which all tick and all but the Submits is heard
  pub run_without_submits : TypedWorld p g → HasStuckRun IsLedCalmly HearsAllButSubmits p g
  run_without_submits typed = record {
    events = typed.first.events;
    world = typed.first.world;
    members = everyone;
    leader = 1;
    ballot = record { round = 1; node = 1 };
    run = run_of (Unit {0}) (Unit {0}) (ticking (Unit {0}) (Unit {0}) (λ x. x) laws tests) typed.first;
    leads = typed.first.leads;
    majority = majority_is (Unit {0}) typed.first;
    led = led_of (Unit {0}) (Unit {0}) (ticking (Unit {0}) (Unit {0}) (λ x. x) laws tests) typed.first;
    heard = record {
      ticks = λ n i node own. idles_of (Unit {0}) (Unit {0}) (ticking (Unit {0}) (Unit {0}) (λ x. x) laws tests) typed.first n i node;
      hears = λ n k i m node own way other.
          hears_of (Unit {0}) (Unit {0}) (ticking (Unit {0}) (Unit {0}) (λ x. x) laws tests) typed.first n k i m node way
          (no_submit m.body other);
    };
    key = typed.key;
    waits = typed.waits;
    unread = λ t i own. unread_of (Unit {0}) (Unit {0}) (ticking (Unit {0}) (Unit {0}) (λ x. x) laws tests) typed.first typed.key t i;
  }
