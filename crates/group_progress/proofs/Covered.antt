-- The first stage of a fair run: a majority has promised all places, and the leading node knows it.
use Rattle.std.proofs.Common.{◌≡◌, ◌∙◌, ◌⊎◌, inl, inr, ℕ, zero, suc, ◌+◌, ◌<◌, ◌≤◌, Bool, IsTrue, Contains, List, [], ◌∷◌, filter_map, take, slice_index, Option, Some, None, IfSome, refl, sym, ap, subst, arith, true, false}
use Rattle.std.proofs.lemmas.Bool.{both_ways, cases_eq, cases_lt, cases_Bool, lt-ltb, ltb-true}
use Rattle.std.proofs.lemmas.List.Elements.{Contains-append_left}
use Rattle.std.specs.FinMap.{FinMap}
use Rattle.std.specs.List.{range_with_len}
use Rattle.std.specs.Ordering.{nat_cmp}
use Rattle.paxos_msg.specs.declared.ballot.Ballot.{Ballot}
use Rattle.paxos_msg.specs.declared.message.Group.{Group}
use Rattle.paxos_msg.specs.declared.message.Body.TheVariants.{Prepare, Promise}
use Rattle.paxos_msg.specs.declared.value.Value.{Value}
use Rattle.paxos_msg.specs.declared.limits.TheConstants.{LAST_PLACE, MOST_VOTES, PLACES}
use Rattle.paxos_msg.specs.Ballots.{IsMajority}
use Rattle.paxos_msg.specs.Batches.{Body, Msg, Vote}
use Rattle.paxos_msg.specs.Fits.{IsNode}
use Rattle.paxos_msg.specs.Places.{votes_from}
use Rattle.paxos_learner.specs.Learner.{AreInWindow, front_of}
use Rattle.paxos_acceptor.specs.Answers.{part_of, upto_of}
use Rattle.paxos_acceptor.specs.declared.me.Me.{Me}
use Rattle.paxos_proposer.specs.Proposer.{Proposer, coverage_of, is_covered, is_covered_by}
use Rattle.group_protocol.proofs.Elements.{first_in, in_cases, none_in, rest_in}
use Rattle.group_protocol.specs.Known.{Known, Response}
use Rattle.group_protocol.specs.Packets.{Packet, to_one}
use Rattle.group_protocol.specs.Protocol.{on_message}
use Rattle.group_protocol.specs.Ranges.{IsHeardFit, IsOwnProposer}
use Rattle.group_protocol.specs.Tick.{asks_again, on_tick, prepares_again, ticked}
use Rattle.group_node.specs.Deeds as deed
use Rattle.group_node.specs.NodeCalls.{Running}
use Rattle.group_world.specs.declared.event.Act.TheVariants as act
use Rattle.group_world.specs.Event.{DoesAt}
use Rattle.group_world.specs.Group.{IsUp, member_at, World, world_state}
use Rattle.group_world.specs.Member.{Member}
use Rattle.group_progress.specs.Fair.{AllHoldPromise, Endless, IsFair, LeadsAllPlaces, IsLed, Later}
use Rattle.group_world.proofs.WorldAsGroup.{changed_here, running}
use Rattle.group_progress.specs.Below.{EventLaws, TestLaws}
use Rattle.group_progress.proofs.Acceptors.{promises}
use Rattle.group_progress.proofs.Calm.{UpWith, made_leaves}
use Rattle.group_progress.proofs.Going.{Good, fits_at, fits_me}
use Rattle.group_progress.proofs.Hearing.{hears_it, made_sends, sends_it}
use Rattle.group_progress.proofs.Leading.{Covers, covers_steady, promise_up}
use Rattle.group_rules.proofs.Lists.{in_from_place, in_range}
use Rattle.group_progress.proofs.Promising.{Agreed, agreed_steady, all_low, all_promise, begun, stays, ticks_at}
use Rattle.group_progress.proofs.Proposers.{reaches}
use Rattle.group_progress.proofs.Runs.{AtWith, good_at, group_at}
use Rattle.group_progress.proofs.Stages.{Stays, from_then, later_then, now}

-- ---- lists

in_images : {X Y : Type 0} (f : X → Option Y) (xs : List X) (x : X) (y : Y) → Contains xs x → f x ≡ Some y → Contains (filter_map f xs) y
in_images f [] x y h e = absurd (none_in x h)
in_images {X} {Y} f (z ∷ zs) x y h e = more (f z) refl (in_cases z zs x h) (λ rest. in_images f zs x y rest e) where
  more : (o : Option Y) → f z ≡ o → (z ≡ x) ⊎ Contains zs x → (Contains zs x → Contains (filter_map f zs) y) → Contains
      (filter_map f (z ∷ zs)) y
  more None at (inl same) go = let no : None ≡ Some y = sym at ∙ ap f same ∙ e in absurd cc
  more None at (inr rest) go = rw at (go rest)
  more (Some u) at (inl same) go =
      let is : u ≡ y = let both : Some u ≡ Some y = sym at ∙ ap f same ∙ e in cc both in rw at
      (subst (λ x. Contains (x ∷ filter_map f zs) y) (sym is) (first_in y (filter_map f zs)))
  more (Some u) at (inr rest) go = rw at (rest_in u (filter_map f zs) y (go rest))

-- ---- what a tick asks

asks_it : (n : Known) (p : Proposer) (i : ℕ) → n.proposer ≡ Some p → is_covered p LAST_PLACE ≡ false → coverage_of p i < PLACES → 0 < i
    → i ≤ p.size
    → Contains (on_tick n).sends (to_one i (Prepare p.ballot (coverage_of p i)))
asks_it n p i is bare room some low = by n.proposer is where
  packet : Packet
  packet = to_one i (Prepare p.ballot (coverage_of p i))

  asked : asks_again p i ≡ Some (to_one i (Prepare p.ballot (coverage_of p i)))
  asked = rw (lt-ltb (coverage_of p i) PLACES room) refl

  among : Contains (prepares_again p) (to_one i (Prepare p.ballot (coverage_of p i)))
  among = rw bare (in_images (asks_again p) (range_with_len 1 p.size) i _ (in_range 1 p.size i (omega (arith, some)) (omega (
    arith,
    low,
  ))) asked)

  by : (o : Option Proposer) → o ≡ Some p → Contains (ticked n o).sends (to_one i (Prepare p.ballot (coverage_of p i)))
  by o e = rw e (Contains-append_left _ _ _ (Contains-append_left (prepares_again p) _ _ among))

-- what a node knows
pub known_of : {K : Known → Type 0} {v : World} {i : ℕ} {m : Member} {q : Running} → AtWith K v i → member_at v.members i ≡ Some m →
    m.node ≡ Some q → K q.known
known_of {K} {v} {i} {m} {q} at there up =
    let is : at.node ≡ m = cc (sym at.there ∙ there) in
    let same : at.is_up.running ≡ q = cc (sym at.is_up.up ∙ ap (λ (m : Member). m.node) is ∙ up) in
    subst (λ (q : Running). K q.known) same at.is_up.holds

pub at_more : {K L : Known → Type 0} {v : World} {i : ℕ} → ((n : Known) → K n → L n) → AtWith K v i → AtWith L v i
at_more more at = record {
  node = at.node;
  there = at.there;
  is_up = record { running = at.is_up.running; up = at.is_up.up; holds = more at.is_up.running.known at.is_up.holds };
}

fewer : (b : Ballot) (j c e : ℕ) → e ≤ c → (n : Known) → Covers b j c n → Covers b j e n
fewer b j c e low n h = record {
  proposer = h.proposer;
  now = h.now;
  ballot = h.ballot;
  promised = h.promised;
  covers = omega (arith, h.covers, low);
  node = h.node;
}

module _ (laws : EventLaws) (tests : TestLaws) (few : (learned : FinMap nat_cmp Value) → AreInWindow learned → front_of learned ≤ PLACES)
    {members : ℕ → Bool} {leader : ℕ} {b : Ballot} {w : World} (run : Endless w) (good : Good w) (most : IsMajority w.group.size members)
    (led : IsLed members leader b run) (fair : IsFair members run) where
  low_of : (i : ℕ) → i ≤ w.group.size → i < 10
  low_of i low = omega (arith, low, good.holds.sound.size.few)

  abbrev pub CoversAt : ℕ → ℕ → ℕ → Type 0
  CoversAt i c n = AtWith (Covers b i c) (run.world (suc n)) leader

  covers_stay : (i c : ℕ) → i < 10 → Stays (CoversAt i c)
  covers_stay i c low = stays laws tests few run good most led (Covers b i c) (covers_steady tests b i c low) leader led.own

  -- a majority of which the leading node knows that they have promised all places
  pub record IsCoveredBy (among : ℕ → Bool) (n : ℕ) : Type 0 where
    pub majority : IsMajority w.group.size among
    pub all : (i : ℕ) → 0 < i → i ≤ w.group.size → IsTrue (among i) → CoversAt i PLACES n

  abbrev pub IsAllCovered : ℕ → Type 0
  IsAllCovered n = (among : ℕ → Bool) × IsCoveredBy among n

  pub covered_stays : (among : ℕ → Bool) → Stays (IsCoveredBy among)
  covered_stays among n h = record {
    majority = h.majority;
    all = λ i some low own. covers_stay i PLACES (low_of i low) n (h.all i some low own);
  }

  -- ---- a node of the majority that is asked, and answers

  abbrev Ask : Msg → ℕ → Type 0
  Ask m n = DoesAt (run.world (suc n)) leader None (deed.Hear m) (run.done (suc n)) (run.world (suc (suc n)))
      × Contains (world_state (run.world (suc n))).sent m

  pub fits_heard : (n i : ℕ) (m : Msg) {x : Member} {q : Running} → IsUp (run.world (suc n)) i x q → Contains
      (world_state (run.world (suc n))).sent m
      → IsHeardFit q.known.me m.sender m.body
  fits_heard n i m is_up among =
      let sound = (good_at laws run good (suc n)).holds.sound in
      subst (λ (me : Me). IsHeardFit me m.sender m.body) (sym (running sound is_up).me_is)
      (fits_at (run.world (suc n)).group (run.world (suc n)).sent m sound.spelled among)

  -- the leading node hears the answer
  takes_it : (n i from : ℕ) (votes : List Vote) → i ≤ w.group.size → from < PLACES → CoversAt i from n
      → DoesAt (run.world (suc n)) leader None
      (deed.Hear (record { sender = i; body = Promise b from (upto_of (votes_from from votes)) (take MOST_VOTES (votes_from from votes)) }))
      (run.done (suc n)) (run.world (suc (suc n)))
      → CoversAt i (suc from) (suc n)
  takes_it n i from votes low room at does =
      let (q, up, ends) = does.does in
      let vs = votes_from from votes in
      let body : Body = Promise b from (upto_of vs) (take MOST_VOTES vs) in
      let h = known_of {K = Covers b i from} at does.there up in
      let up_now = promise_up tests b i from (upto_of vs) (low_of i low) (take MOST_VOTES vs) q.known h (reaches from votes room) in
      let left = made_leaves does.node q.progress (on_message q.known i body) [] does.left ends in
      record {
        node = does.left.member;
        there = rw does.leads (changed_here (run.world (suc n)).members leader does.node does.left.member does.there);
        is_up = subst (UpWith (Covers b i (suc from))) (sym left) (record { running = _; up = refl; holds = up_now });
      }

  -- a node hears the Prepare, and its answer is heard
  answers_it : (n i from : ℕ) → IsNode w.group.size i → IsTrue (members i) → from < PLACES → b.node ≡ leader → CoversAt i from n
      → DoesAt (run.world (suc n)) i None (deed.Hear (record { sender = leader; body = Prepare b from })) (run.done (suc n))
      (run.world (suc (suc n)))
      → Contains (world_state (run.world (suc n))).sent (record { sender = leader; body = Prepare b from })
      → Later n (CoversAt i (suc from))
  answers_it n i from node own room home at does among =
      let (q, up, ends) = does.does in
      let sound = (good_at laws run good (suc n)).holds.sound in
      let is_up : IsUp (run.world (suc n)) i does.node q = record { there = does.there; up = up } in
      let low = known_of (all_low laws tests few run good most led n i node own) does.there up in
      let made = promises tests q.known leader b from low in
      let part : Body = part_of q.known.kept b from in
      let done : Response = on_message q.known leader (Prepare b from) in
      let fits = fits_me sound is_up (laws.fits_message q.known leader (Prepare b from) (running sound is_up).ranges
      (fits_heard n i _ is_up among)) in
      let sends = subst (λ (ps : List Packet). Contains ps (to_one b.node part)) (sym made.sends) (first_in (to_one b.node part) []) in
      let (k, way) = sends_it laws tests few run good most led (suc n) i leader own does.there done (to_one b.node part) fits sends
      home does.left
      (made_sends does.node q.progress done does.left ends) does.leads in
      let (t, less, (heard, there)) = hears_it laws tests few run good most led fair (suc n) k leader _ led.node led.own way in
      let still = from_then (CoversAt i from) (covers_stay i from (low_of i node.1)) n t (omega (arith, less)) at in
      (suc t, omega (arith, less), takes_it t i from q.known.kept.votes node.1 room still heard)

  home_is : b.node ≡ leader
  home_is =
      let (m, q, is_up) = led.up leader led.node led.own in
      let sound = running good.holds.sound is_up in
      ap (λ (c : Ballot). c.node) (sym (led.ballot m q is_up)) ∙ ap (λ (me : Me). me.node) sound.me_is

  -- ---- one tick of the leading node

  abbrev Next : ℕ → ℕ → ℕ → Type 0
  Next i c n = CoversAt i (suc c) n ⊎ (CoversAt i PLACES n ⊎ IsAllCovered n)

  -- a majority has promised all places, by what the leading node knows
  covered_by : (n : ℕ) {m : Member} {q : Running} → member_at (run.world (suc n)).members leader ≡ Some m → m.node ≡ Some q
      → (h : Covers b 0 0 q.known) → is_covered h.proposer LAST_PLACE ≡ true → IsAllCovered n
  covered_by n {m} {q} there up h is =
      let sound = (good_at laws run good (suc n)).holds.sound in
      let runs = running sound (record { there = there; up = up }) in
      let own : IsOwnProposer q.known.me h.proposer = subst (λ o. IfSome o (IsOwnProposer q.known.me)) h.now runs.ranges.proposer in
      let size : h.proposer.size ≡ w.group.size = own.size ∙ ap (λ (me : Me). me.group.size) runs.me_is ∙ ap (λ (g : Group). g.size)
      (group_at run (suc n)) in (
        is_covered_by h.proposer.coverages LAST_PLACE,
        record {
          majority = subst (λ k. IsMajority k (is_covered_by h.proposer.coverages LAST_PLACE)) size
              ((tests.majority h.proposer.size (is_covered_by h.proposer.coverages LAST_PLACE)).0 is);
          all = λ i some low mine. record {
            node = m;
            there = there;
            is_up = record {
              running = q;
              up = up;
              holds = record {
                proposer = h.proposer;
                now = h.now;
                ballot = h.ballot;
                promised = h.promised;
                covers = let more = ltb-true LAST_PLACE (slice_index h.proposer.coverages i) mine in omega (arith, more);
                node = h.node;
              };
            };
          };
        },
      )

  rises_once : (i c n : ℕ) → IsNode w.group.size i → IsTrue (members i) → CoversAt i c n → Later n (Next i c)
  rises_once i c n node own at = by (fair.ticks (suc n) leader led.node led.own) where
    asks : (t : ℕ) → n ≤ t → (does : DoesAt (run.world (suc t)) leader None deed.Tick (run.done (suc t)) (run.world (suc (suc t))))
        → (h : Covers b i c does.does.0.known) → is_covered h.proposer LAST_PLACE ≡ false → coverage_of h.proposer i < PLACES → Later n
        (Next i c)
    asks t later does h bare room =
        let (q, up, ends) = does.does in
        let from : ℕ = coverage_of h.proposer i in
        let sound = (good_at laws run good (suc t)).holds.sound in
        let is_up : IsUp (run.world (suc t)) leader does.node q = record { there = does.there; up = up } in
        let runs = running sound is_up in
        let mine : IsOwnProposer q.known.me h.proposer = subst (λ o. IfSome o (IsOwnProposer q.known.me)) h.now runs.ranges.proposer in
        let size : h.proposer.size ≡ w.group.size = mine.size ∙ ap (λ (me : Me). me.group.size) runs.me_is ∙ ap (λ (g : Group). g.size)
        (group_at run (suc t)) in
        let fits = fits_me sound is_up (laws.fits_tick q.known runs.ranges) in
        let sends = asks_it q.known h.proposer i h.now bare room node.0 (omega (arith, node.1, size)) in
        let (k, way) = sends_it laws tests few run good most led (suc t) leader i led.own does.there (on_tick q.known)
        (to_one i (Prepare h.proposer.ballot from))
        fits sends refl does.left (made_sends does.node q.progress (on_tick q.known) does.left ends) does.leads in
        let (u, less, (heard, there)) = hears_it laws tests few run good most led fair (suc t) k i _ node own way in
        let here : CoversAt i from t = record {
          node = does.node;
          there = does.there;
          is_up = record {
            running = q;
            up = up;
            holds = record {
              proposer = h.proposer;
              now = h.now;
              ballot = h.ballot;
              promised = h.promised;
              covers = omega arith;
              node =
                  h.node;
            };
          };
        } in
        let still = from_then (CoversAt i from) (covers_stay i from (low_of i node.1)) t u (omega (arith, less)) here in
        let among = in_from_place _ k _ there in
        let (v, more, at_last) = answers_it u i from node own room home_is still
        (subst (λ d. DoesAt (run.world (suc u)) i None (deed.Hear (record { sender = leader; body = Prepare d from }))
        (run.done (suc u)) (run.world (suc (suc u)))) h.ballot heard)
        (subst (λ d. Contains (world_state (run.world (suc u))).sent (record { sender = leader; body = Prepare d from })) h.ballot among) in
        (v, omega (arith, later, less, more), inl (at_more (fewer b i (suc from) (suc c) (omega (arith, h.covers))) at_last))

    ticked_at : (t : ℕ) → n ≤ t → (does : DoesAt (run.world (suc t)) leader None deed.Tick (run.done (suc t))
        (run.world (suc (suc t)))) → Later n (Next i c)
    ticked_at t later does =
        let still = from_then (CoversAt i c) (covers_stay i c (low_of i node.1)) n t later at in
        let h = known_of {K = Covers b i c} still does.there does.does.1 in
        elim (cases_Bool (is_covered h.proposer LAST_PLACE)) [
          | inl is ↦ (
            t,
            later,
            inr (inr (covered_by t does.there does.does.1
                (record {
                  proposer = h.proposer;
                  now = h.now;
                  ballot = h.ballot;
                  promised = h.promised;
                  covers = omega arith;
                  node =
                      h.node;
                }) is)),
          )
          | inr bare ↦ elim (cases_lt (coverage_of h.proposer i) PLACES) [
            | inl room ↦ asks t later does h bare room
            | inr full ↦ (
              t,
              later,
              inr (inl (record {
                node = does.node;
                there = does.there;
                is_up = record {
                  running = does.does.0;
                  up = does.does.1;
                  holds = record {
                    proposer = h.proposer;
                    now = h.now;
                    ballot = h.ballot;
                    promised = h.promised;
                    covers = full;
                    node =
                        h.node;
                  };
                };
              })),
            )
          ]
        ]

    by : Later (suc n) (λ t. (run.event t).act ≡ act.Tick leader) → Later n (Next i c)
    by (zero, less, acts) = absurd (omega (arith, less))
    by (suc t, less, acts) = ticked_at t (omega (arith, less)) (ticks_at laws tests few run good most led t leader led.own acts)

  -- ---- all places

  abbrev Full : ℕ → ℕ → Type 0
  Full i n = CoversAt i PLACES n ⊎ IsAllCovered n

  rises : (fuel i c n : ℕ) → PLACES ≤ c + fuel → IsNode w.group.size i → IsTrue (members i) → CoversAt i c n → Later n (Full i)
  rises zero i c n enough node own at = now n (inl (at_more (fewer b i c PLACES (omega (arith, enough))) at))
  rises (suc fuel) i c n enough node own at = later_then n (rises_once i c n node own at) (λ t less next. elim next [
    | inl more ↦ rises fuel i (suc c) t (omega (arith, enough)) node own more
    | inr (inl full) ↦ now t (inl full)
    | inr (inr all) ↦ now t (inr all)
  ])

  covers_first : (i n : ℕ) → i < 10 → CoversAt i 0 n
  covers_first i n low = from_then (CoversAt i 0) (covers_stay i 0 low) 0 n (omega arith)
      ((begun laws tests few run good most led).covers i)

  abbrev AllTo : ℕ → ℕ → Type 0
  AllTo k t = (i : ℕ) → 0 < i → i ≤ k → IsTrue (members i) → CoversAt i PLACES t

  one_more : (k t : ℕ) → AllTo k t → (IsTrue (members (suc k)) → CoversAt (suc k) PLACES t) → AllTo (suc k) t
  one_more k t all here i some low own = elim (cases_eq i (suc k)) [
    | inl same ↦ subst (λ j. CoversAt j PLACES t) (sym same) (here (subst (λ j. IsTrue (members j)) same own))
    | inr other ↦ all i some (omega (arith, low, other)) own
  ]

  each : (k n : ℕ) → k ≤ w.group.size → Later n (λ t. AllTo k t ⊎ IsAllCovered t)
  each zero n low = now n (inl (λ i some low own. absurd (omega (arith, some, low))))
  each (suc k) n low = later_then n (each k n (omega (arith, low))) (λ t less h. elim h [
    | inr all ↦ now t (inr all)
    | inl lows ↦ elim (cases_Bool (members (suc k))) [
      | inr not ↦ now t (inl (one_more k t lows (λ own. absurd (both_ways (members (suc k)) not own))))
      | inl is ↦ later_then t (rises PLACES (suc k) 0 t (omega arith) (
        omega arith,
        low,
      ) is (covers_first (suc k) t (low_of (suc k) low))) (λ u more f. elim f [
        | inr all ↦ now u (inr all)
        | inl full ↦ now u (inl (one_more k u
            (λ i some below own. from_then (CoversAt i PLACES) (covers_stay i PLACES (low_of i (omega (
              arith,
              below,
              low,
            )))) t u more (lows i some below own))
            (λ own. full)))
      ])
    ]
  ])

  pub covered : Later 0 IsAllCovered
  covered = later_then 0 (each w.group.size 0 (omega arith)) (λ t less h. elim h [
    | inl all ↦ now t (members, record { majority = most; all = all })
    | inr all ↦ now t all
  ])

  -- ---- the laws

  leading_at : (among : ℕ → Bool) (n : ℕ) → IsCoveredBy among n → LeadsAllPlaces among b leader (run.world (suc n))
  leading_at among n h =
      let at = covers_first 0 n (omega arith) in
      let k : Covers b 0 0 at.is_up.running.known = at.is_up.holds in record {
        node = at.node;
        running = at.is_up.running;
        up = record { there = at.there; up = at.is_up.up };
        proposer = k.proposer;
        now = k.now;
        ballot = k.ballot;
        covers = λ j node own.
            let size = subst (λ (g : Group). IsNode g.size j) (group_at run (suc n)) node in
            let g = known_of {K = Covers b j PLACES} (h.all j size.0 size.1 own) at.there at.is_up.up in
            let same : g.proposer ≡ k.proposer = cc (sym g.now ∙ k.now) in
            subst (λ (p : Proposer). PLACES ≤ coverage_of p j) same g.covers;
      }

  pub leads_on : Later 0 (λ t. (among : ℕ → Bool) × IsMajority w.group.size among ×
      ((u : ℕ) → t ≤ u → LeadsAllPlaces among b leader (run.world u)))
  leads_on = by covered where
    at : (among : ℕ → Bool) (t : ℕ) → IsCoveredBy among t → (u : ℕ) → suc t ≤ u → LeadsAllPlaces among b leader (run.world u)
    at among t h zero less = absurd (omega (arith, less))
    at among t h (suc u) less = leading_at among u (from_then (IsCoveredBy among) (covered_stays among) t u (omega (arith, less)) h)

    by : Later 0 IsAllCovered → Later 0 (λ t. (among : ℕ → Bool) × IsMajority w.group.size among ×
        ((u : ℕ) → t ≤ u → LeadsAllPlaces among b leader (run.world u)))
    by (t, less, (among, h)) = (suc t, omega arith, (among, h.majority, at among t h))

  pub promised_on : Later 0 (λ t. (u : ℕ) → t ≤ u → AllHoldPromise members b w.group.size (run.world u))
  promised_on = by (all_promise laws tests few run good most led fair) where
    All : ℕ → Type 0
    All t = (i : ℕ) → 0 < i → i ≤ w.group.size → IsTrue (members i) → AtWith (Agreed laws tests few run good most led) (run.world (suc t)) i

    at : (t : ℕ) → All t → (u : ℕ) → suc t ≤ u → AllHoldPromise members b w.group.size (run.world u)
    at t h zero less = absurd (omega (arith, less))
    at t h (suc u) less = λ i node own.
        let K : Known → Type 0 = Agreed laws tests few run good most led in
        let a = from_then (λ n. AtWith K (run.world (suc n)) i)
        (stays laws tests few run good most led K (agreed_steady laws tests few run good most led) i own) t u (omega (
          arith,
          less,
        )) (h i node.0 node.1 own) in
        record { node = a.node; running = a.is_up.running; up = record { there = a.there; up = a.is_up.up }; promised = a.is_up.holds }

    by : Later 0 All → Later 0 (λ t. (u : ℕ) → t ≤ u → AllHoldPromise members b w.group.size (run.world u))
    by (t, less, h) = (suc t, omega arith, at t h)
