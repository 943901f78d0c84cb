-- In a fair run each key that waits at a node of the majority is read by all of them.
use Rattle.std.proofs.Common.{append_assoc, append-nil, ◌≡◌, ◌∙◌, ◌⊎◌, inl, inr, ℕ, zero, suc, ◌+◌, ◌<◌, ◌≤◌, Bool, IsTrue, Contains, List, [], ◌∷◌, ◌++◌, Some, None, IfSome, if◌then◌else◌, refl, sym, ap, subst, arith, true, false}
use Rattle.std.specs.List.{range_with_len}
use Rattle.std.proofs.lemmas.Bool.{cases_Bool, or_cases}
use Rattle.std.proofs.lemmas.List.Elements.{All-nil}
use Rattle.std.specs.FinMap.{FinMap, get}
use Rattle.std.specs.Ordering.{nat_cmp}
use Rattle.paxos_msg.specs.declared.ballot.Ballot.{Ballot}
use Rattle.paxos_msg.specs.declared.limits.TheConstants.{LAST_PLACE, PLACES}
use Rattle.paxos_msg.specs.declared.message.Body.TheVariants.{Accept, Ask, Submit}
use Rattle.paxos_msg.specs.declared.value.Value.{Value}
use Rattle.paxos_msg.specs.Ballots.{IsMajority}
use Rattle.paxos_msg.specs.declared.message.Group.{Group}
use Rattle.paxos_msg.specs.Fits.{IsNode}
use Rattle.paxos_msg.specs.Keys.{Key, keys_of}
use Rattle.paxos_msg.specs.Messages.{IsSaid}
use Rattle.paxos_learner.specs.Input.{front_values, has_key, is_learned, keys_in_order}
use Rattle.paxos_learner.specs.Learner.{AreInWindow, Learner, front_of}
use Rattle.paxos_proposer.specs.Proposer.{Proposer, next_of}
use Rattle.group_protocol.proofs.Elements.{first_in, none_in}
use Rattle.group_protocol.specs.Known.{Known, front}
use Rattle.group_protocol.specs.Packets.{to_all}
use Rattle.group_protocol.specs.Protocol.{on_message}
use Rattle.group_protocol.specs.ProposerResponses.{is_known_key}
use Rattle.group_protocol.specs.Tick.{asks, on_tick, submits}
use Rattle.group_protocol.specs.WaitingKeys.{waiting_keys}
use Rattle.group_node.specs.Deeds as deed
use Rattle.group_node.specs.NodeCalls.{Running}
use Rattle.group_world.specs.declared.event.Act.TheVariants as act
use Rattle.group_world.specs.Event.{DoesAt}
use Rattle.group_world.specs.Group.{IsUp, member_at, World, world_state}
use Rattle.group_world.specs.Member.{Member}
use Rattle.group_progress.specs.Below.{EventLaws, TestLaws, TellLaws, FairLaws}
use Rattle.group_progress.proofs.Unread.{IsUnreadAt}
use Rattle.group_progress.specs.GoingOn.{AllHaveRead, HasRead, waiting_at, keys_waiting, waiting_of}
use Rattle.group_progress.specs.Fair.{AllIsRead, Endless, IsFair, IsLed, Later}
use Rattle.group_world.proofs.WorldAsGroup.{changed_here, running}
use Rattle.group_progress.proofs.Calm.{IsSteady, UpWith, made_leaves}
use Rattle.group_progress.proofs.Covered.{IsCoveredBy, at_more, covered_stays, known_of}
use Rattle.group_progress.proofs.Cycle.{first_batch}
use Rattle.group_progress.proofs.Going.{Good, fits_me}
use Rattle.group_progress.proofs.Hearing.{hears_it, made_sends, sends_it}
use Rattle.group_progress.proofs.Lasting.{AreProposed, HasProposal, IsKeptOrProposed, IsNextAbove, LeadsWith, next_lasts, proposal_lasts, proposed_lasts}
use Rattle.group_progress.proofs.Moments.{LeadsAt, first_keeps, leads_stay, one_running, opened}
use Rattle.group_rules.proofs.Lists.{of_flat_map, of_range}
use Rattle.group_progress.proofs.Promising.{all_low, stays, ticks_at}
use Rattle.group_progress.proofs.Reading.{HasKey, read_at}
use Rattle.group_progress.proofs.Rising.{backed_at, covered_is, covered_later, learned_kept, next_room, proposed_later, same_value_at}
use Rattle.group_progress.proofs.Runs.{AtWith, good_at, group_at}
use Rattle.group_progress.proofs.Stages.{Stays, all_later, from_then, later_then, now}
use Rattle.group_progress.proofs.Telling.{some_at, tick_keeps, tick_sends}
use Rattle.group_progress.proofs.Told.{IsFar, all_read}
use Rattle.group_progress.proofs.Turns.{AreRead, Begins, begins_steady, read_push, read_steady, submit_up, turn_of}
use Rattle.group_progress.proofs.Voting.{front_reaches, leader_far_stays, proposed_below}

-- a value is learned at a place
abbrev pub HasLearnedAt : ℕ → Value → Known → Type 0
HasLearnedAt s v n = get n.learner.learned s ≡ Some v

module _ (fl : FairLaws) where
  -- the laws of fronts
  abbrev pub tell_of : TellLaws
  tell_of = record { front = fl.more.laws.front; rises = fl.more.laws.front_rises; message = fl.more.laws.keys.learned_message }

  -- which stays
  learned_steady : (b : Ballot) (s : ℕ) (v : Value) → IsSteady b (HasLearnedAt s v)
  learned_steady b s v = record {
    message = λ n j body calm h. (fl.more.laws.keys.learned_message n j body).stays s v h;
    tick = λ n h. subst (λ (l : Learner). get l.learned s ≡ Some v) (sym (tick_keeps n n.proposer).learner) h;
    typed = λ n byte h. h;
  }

module _ (fl : FairLaws) {members : ℕ → Bool} {leader : ℕ} {b : Ballot} {w : World} (run : Endless w) (good : Good w)
    (most : IsMajority w.group.size members) (led : IsLed members leader b run) (fair : IsFair members run) where
  -- the laws of events, of tests and of fronts
  abbrev events : EventLaws
  events = fl.more.laws.events

  abbrev tests : TestLaws
  tests = fl.more.laws.tests

  abbrev few : (learned : FinMap nat_cmp Value) → AreInWindow learned → front_of learned ≤ PLACES
  few = fl.few

  -- a fact of a node at a moment
  abbrev At : (Known → Type 0) → ℕ → ℕ → Type 0
  At K i n = AtWith K (run.world (suc n)) i

  -- a fact of the leading node
  abbrev Reaches : (Proposer → List Key → Type 0) → ℕ → Type 0
  Reaches P n = LeadsAt events tests few run good most led P n

  -- a majority has promised all places, by what it knows
  abbrev IsCovered : (ℕ → Bool) → ℕ → Type 0
  IsCovered among n = IsCoveredBy events tests few run good most led fair among n

  -- steady facts stay
  lasts : (K : Known → Type 0) → IsSteady b K → (i : ℕ) → IsTrue (members i) → Stays (At K i)
  lasts K steady i own = stays events tests few run good most led K steady i own

  -- the next place only rises
  next_stays : (c : ℕ) → Stays (Reaches (IsNextAbove c))
  next_stays c = leads_stay events tests few run good most led (IsNextAbove c) (next_lasts c)

  -- and so does the front
  far_stays : (c : ℕ) → Stays (At (IsFar c) leader)
  far_stays c = leader_far_stays (tell_of fl) events tests few run good most led fair c

  -- what is proposed is learned
  reaches : (c n : ℕ) → Reaches (IsNextAbove c) n → Later n (At (IsFar c) leader)
  reaches c n leads = front_reaches (tell_of fl) events tests few run good most led fair c n leads

  -- ---- a key that the leading node knows

  -- the key of a value that it has learned below its next place
  learned_read : (n s : ℕ) (v : Value) (k : Key) → At (HasLearnedAt s v) leader n → Reaches (IsNextAbove (suc s)) n → Contains (keys_of v) k
      → Later n (At (λ m. HasKey m k) leader)
  learned_read n s v k at next among = later_then n (reaches (suc s) n next) (λ t less far.
      let still = from_then (At (HasLearnedAt s v) leader)
      (lasts (HasLearnedAt s v) (learned_steady fl b s v) leader led.own) n t less at in
      let learned = known_of {K = HasLearnedAt s v} still far.there far.is_up.up in
      now t (record {
        node = far.node;
        there = far.there;
        is_up = record {
          running = far.is_up.running;
          up = far.is_up.up;
          holds = read_at fl.more.reads far.is_up.running.known.learner.learned s v k learned far.is_up.holds among;
        };
      }))

  -- the key of a value that it has proposed
  proposed_read : (n s : ℕ) (v : Value) (k : Key) → Reaches (HasProposal s v) n → Contains (keys_of v) k
      → Later n (At (λ m. HasKey m k) leader)
  proposed_read n s v k at among =
      let p : Reaches (IsNextAbove (suc s)) n = record {
        node = at.node;
        there = at.there;
        is_up = record {
          running = at.is_up.running;
          up = at.is_up.up;
          holds = record {
            proposer = at.is_up.holds.proposer;
            now = at.is_up.holds.now;
            ballot = at.is_up.holds.ballot;
            promised = at.is_up.holds.promised;
            holds = proposed_below at.is_up.holds.proposer s v at.is_up.holds.holds;
          };
        };
      } in
      later_then n (reaches (suc s) n p) (λ t less far.
      let still = from_then (Reaches (HasProposal s v))
      (leads_stay events tests few run good most led (HasProposal s v) (proposal_lasts s v)) n t less at in
      let h = known_of {K = LeadsWith b (HasProposal s v)} still far.there far.is_up.up in
      let is_up : IsUp (run.world (suc t)) leader far.node far.is_up.running = record { there = far.there; up = far.is_up.up } in
      let l : Learner = far.is_up.running.known.learner in
      let below : s < front_of far.is_up.running.known.learner.learned = far.is_up.holds in
      let (u, learned) = some_at far.is_up.running.known.learner.learned s
      ((fl.more.laws.front far.is_up.running.known.learner).below s below) in
      let back = backed_at events tests few run good most led fair t is_up h.proposer h.now in
      let said : IsSaid (world_state (run.world (suc t))).sent (Accept b s v) =
      subst (λ d. IsSaid (world_state (run.world (suc t))).sent (Accept d s v)) h.ballot (leader, back.sent_all s v h.holds) in
      let same = same_value_at events tests few run good most led fair t is_up s u v learned said in
      now t (record {
        node = far.node;
        there = far.there;
        is_up = record {
          running = far.is_up.running;
          up = far.is_up.up;
          holds = read_at fl.more.reads far.is_up.running.known.learner.learned s u k learned below
              (subst (λ v. Contains (keys_of v) k) same among);
        };
      }))

  -- each key that it has learned or offered it reads
  offered_read : (n : ℕ) (k : Key) → At (λ m. Contains m.offered k) leader n → Later n (At (λ m. HasKey m k) leader)
  offered_read n k at =
      let start = (opened events tests few run good most led).proposed in
      let all = from_then (Reaches AreProposed) (leads_stay events tests few run good most led AreProposed proposed_lasts) 0 n
      (omega arith) start in
      let h = known_of {K = LeadsWith b AreProposed} all at.there at.is_up.up in
      let g = h.holds k at.is_up.holds in
      proposed_read n g.place g.value k (record {
        node = at.node;
        there = at.there;
        is_up = record {
          running = at.is_up.running;
          up = at.is_up.up;
          holds = record { proposer = h.proposer; now = h.now; ballot = h.ballot; promised = h.promised; holds = g.at };
        };
      }) g.has

  -- each key that it knows
  known_read : (among : ℕ → Bool) (n c : ℕ) (k : Key) {m : Member} {q : Running} → IsUp (run.world (suc n)) leader m q → IsCovered among n
      → Reaches (IsNextAbove c) n → is_known_key q.known k ≡ true → Later n (At (λ m. HasKey m k) leader)
  known_read among n c k {m} {q} is_up covers next known = elim
      (or_cases (is_learned q.known.learner.learned k) (has_key q.known.offered k) known) [
        | inr offered ↦ offered_read n k (record {
          node = m;
          there = is_up.there;
          is_up = record { running = q; up = is_up.up; holds = fl.more.has q.known.offered k offered };
        })
        | inl learned ↦
            let at = fl.more.stands q.known k learned in
            let h = known_of {K = LeadsWith b (IsNextAbove c)} next is_up.there is_up.up in
            let sound = running (good_at events run good (suc n)).holds.sound is_up in
            let high : at.place ≤ LAST_PLACE = sound.ranges.learner.window.place at.place at.value at.is_learned in
            let kept = learned_kept events tests few run good most led fair n is_up h.proposer h.now among covers h.ballot at.place at.value
            (omega (arith, high)) at.is_learned in
            let leads : Reaches (IsKeptOrProposed at.place) n = record {
              node = m;
              there = is_up.there;
              is_up = record {
                running = q;
                up = is_up.up;
                holds = record { proposer = h.proposer; now = h.now; ballot = h.ballot; promised = h.promised; holds = kept };
              };
            } in
            let here : At (HasLearnedAt at.place at.value) leader n = record {
              node = m;
              there = is_up.there;
              is_up = record { running = q; up = is_up.up; holds = at.is_learned };
            } in
            later_then n (proposed_later events tests few run good most led fair at.place n leads) (λ t less up.
            learned_read t at.place at.value k
            (from_then (At (HasLearnedAt at.place at.value) leader)
            (lasts (HasLearnedAt at.place at.value) (learned_steady fl b at.place at.value) leader led.own) n t less here)
            up at.has)
      ]

  -- what the leading node has read, each of the majority reads
  passed_on : (n i : ℕ) (k : Key) → IsNode w.group.size i → IsTrue (members i) → At (λ m. HasKey m k) leader n
      → Later n (At (λ m. HasKey m k) i)
  passed_on n i k node own at = by (all_read (tell_of fl) events tests few run good most led fair fl.more.reads fl.more.laws.keys
      leader n at.node at.is_up.running led.node led.own (record { there = at.there; up = at.is_up.up })) where
        by : Later (suc n) (λ t. (u : ℕ) → t ≤ u → AllHaveRead members w.group.size
            (keys_in_order (front_values at.is_up.running.known.learner.learned)) (run.world u))
            → Later n (At (λ m. HasKey m k) i)
        by (zero, less, all) = absurd (omega (arith, less))
        by (suc t, less, all) =
            let has = all (suc t) (omega arith) i node own in (
              t,
              omega (arith, less),
              record {
                node = has.node;
                there = has.up.there;
                is_up = record { running = has.running; up = has.up.up; holds = has.read k at.is_up.holds };
              },
            )

  -- ---- a node submits the first key that waits

  module _ (i : ℕ) (node : IsNode w.group.size i) (own : IsTrue (members i)) (pre post : List Key) (k : Key) where
    -- those in front are read
    abbrev Turn : ℕ → Type 0
    Turn n = At (Begins (pre ++ k ∷ post)) i n × At (AreRead pre) i n

    -- which stays
    turn_stays : Stays Turn
    turn_stays n h = (
      lasts (Begins (pre ++ k ∷ post)) (begins_steady fl.wait b (pre ++ k ∷ post)) i own n h.0,
      lasts (AreRead pre) (read_steady fl.wait.keys b pre) i own n h.1,
    )

    -- the key is read, or the next place rises
    abbrev Goal : ℕ → ℕ → Type 0
    Goal c n = At (λ m. HasKey m k) i n ⊎ Reaches (IsNextAbove (suc c)) n

    -- the leading node hears the batch
    batch_heard : (among : ℕ → Bool) (n c : ℕ) (v : Value) (others : List Key) → IsCovered among n → Reaches (IsNextAbove c) n
        → keys_of v ≡ k ∷ others
        → DoesAt (run.world (suc n)) leader None (deed.Hear (record { sender = i; body = Submit v })) (run.done (suc n))
        (run.world (suc (suc n)))
        → Later n (Goal c)
    batch_heard among n c v others covers next keys does = by (cases_Bool (is_known_key does.does.0.known k)) where
      is_up : IsUp (run.world (suc n)) leader does.node does.does.0
      is_up = record { there = does.there; up = does.does.1 }

      h : LeadsWith b (IsNextAbove c) does.does.0.known
      h = known_of {K = LeadsWith b (IsNextAbove c)} next does.there does.does.1

      after : (K : Known → Type 0) → K (on_message does.does.0.known i (Submit v)).node → At K leader (suc n)
      after K holds = record {
        node = does.left.member;
        there = rw does.leads (changed_here (run.world (suc n)).members leader does.node does.left.member does.there);
        is_up = subst (UpWith K) (sym (made_leaves does.node does.does.0.progress
            (on_message does.does.0.known i (Submit v)) [] does.left does.does.2))
            (record { running = _; up = refl; holds = holds });
      }

      by : (is_known_key does.does.0.known k ≡ true) ⊎ (is_known_key does.does.0.known k ≡ false) → Later n (Goal c)
      by (inl known) =
          later_then n (known_read among n c k is_up covers next known) (λ t less read.
          later_then t (passed_on t i k node own read) (λ u more here. now u (inl here)))
      by (inr unknown) =
          let room = next_room events tests few run good most led fair n is_up h.proposer h.now in
          let whole = covered_is events tests few run good most led fair n is_up h.proposer h.now among covers (next_of h.proposer) room in
          elim (submit_up fl.more.has tests b c does.does.0.known h v k others i whole room keys unknown) [
            | inr up ↦ (suc n, omega arith, inr (after (LeadsWith b (IsNextAbove (suc c))) up))
            | inl offered ↦
                let (t, less, read) = offered_read (suc n) k (after (λ m. Contains m.offered k) offered) in
                let (u, more, here) = passed_on t i k node own read in
                (u, omega (arith, less, more), inl here)
          ]

    -- the node ticks
    submits_then : (among : ℕ → Bool) (n t c : ℕ) → n ≤ t → IsCovered among n → Reaches (IsNextAbove c) n → Turn n
        → DoesAt (run.world (suc t)) i None deed.Tick (run.done (suc t)) (run.world (suc (suc t))) → Later n (Goal c)
    submits_then among n t c later covers next turn does =
        let (q, up, ends) = does.does in
        let is_up : IsUp (run.world (suc t)) i does.node q = record { there = does.there; up = up } in
        let still = from_then Turn turn_stays n t later turn in
        let sound = (good_at events run good (suc t)).holds.sound in
        let first = subst (λ o. IfSome o (λ (q : Running). IsUnreadAt q.known)) up
        ((good_at events run good (suc t)).unread i does.node does.there) in
        elim (turn_of pre post k q.known (known_of {K = Begins (pre ++ k ∷ post)} still.0 does.there up)
        (known_of {K = AreRead pre} still.1 does.there up) first) [
          | inl read ↦ (
            t,
            later,
            inl (record {
              node = does.node;
              there = does.there;
              is_up = record { running = q; up = up; holds = read };
            }),
          )
          | inr (rest, waits) ↦
              let (v, batch, (others, keys)) = first_batch fl.more q.known k rest waits in
              let fits = fits_me sound is_up (events.fits_tick q.known (running sound is_up).ranges) in
              let among_asks : Contains (asks q.known) (to_all (Submit v)) =
              subst (λ o. Contains (submits o ++ to_all (Ask (front q.known)) ∷ []) (to_all (Submit v))) (sym batch)
              (first_in (to_all (Submit v)) (to_all (Ask (front q.known)) ∷ [])) in
              let sends = tick_sends q.known q.known.proposer (to_all (Submit v)) among_asks in
              let (x, way) = sends_it events tests few run good most led (suc t) i leader own does.there (on_tick q.known)
              (to_all (Submit v))
              fits sends tt does.left (made_sends does.node q.progress (on_tick q.known) does.left ends) does.leads in
              let (u, less, (heard, place)) = hears_it events tests few run good most led fair (suc t) x leader _ led.node led.own way in
              let on : n ≤ u = omega (arith, later, less) in
              let (z, further, goal) = batch_heard among u c v others
              (from_then (IsCovered among) (covered_stays events tests few run good most led fair among) n u on covers)
              (from_then (Reaches (IsNextAbove c)) (next_stays c) n u on next) keys heard in
              (z, omega (arith, on, further), goal)
        ]

    -- there is a tick
    submits_once : (among : ℕ → Bool) (n c : ℕ) → IsCovered among n → Reaches (IsNextAbove c) n → Turn n → Later n (Goal c)
    submits_once among n c covers next turn = by (fair.ticks (suc n) i node own) where
      by : Later (suc n) (λ t. (run.event t).act ≡ act.Tick i) → Later n (Goal c)
      by (zero, less, acts) = absurd (omega (arith, less))
      by (suc t, less, acts) =
          submits_then among n t c (omega (arith, less)) covers next turn (ticks_at events tests few run good most led t i own acts)

    -- again, until the node has read the key
    submits_on : (among : ℕ → Bool) (fuel n c : ℕ) → PLACES ≤ c + fuel → IsCovered among n → Reaches (IsNextAbove c) n → Turn n
        → Later n (At (λ m. HasKey m k) i)
    submits_on among zero n c enough covers next turn =
        let h = next.is_up.holds in
        let room = next_room events tests few run good most led fair n
        (record { there = next.there; up = next.is_up.up }) h.proposer h.now in
        absurd (omega (arith, room, h.holds, enough))
    submits_on among (suc fuel) n c enough covers next turn = later_then n (submits_once among n c covers next turn)
        (λ t less goal. elim goal [
          | inl read ↦ now t read
          | inr up ↦ submits_on among fuel t (suc c) (omega (arith, enough))
              (from_then (IsCovered among) (covered_stays events tests few run good most led fair among) n t less covers) up
              (from_then Turn turn_stays n t less turn)
        ])

    -- so its turn comes
    pub turn_comes : (n : ℕ) → Turn n → Later n (At (λ m. HasKey m k) i)
    turn_comes n turn = later_then n (covered_later events tests few run good most led fair n) (λ t less all.
        let start = (opened events tests few run good most led).proposed in
        let first : Reaches (IsNextAbove 0) 0 =
        at_more (λ m h. record {
          proposer = h.proposer;
          now = h.now;
          ballot = h.ballot;
          promised = h.promised;
          holds = omega arith;
        }) start in
        submits_on all.0 PLACES t 0 (omega arith) all.1 (from_then (Reaches (IsNextAbove 0)) (next_stays 0) 0 t (omega arith) first)
        (from_then Turn turn_stays n t less turn))

  -- ---- all keys that wait

  module _ (i : ℕ) (node : IsNode w.group.size i) (own : IsTrue (members i)) where
    -- one after another
    all_in_turn : (post pre : List Key) (n : ℕ) → At (Begins (pre ++ post)) i n → At (AreRead pre) i n
        → Later n (At (AreRead (pre ++ post)) i)
    all_in_turn [] pre n begins read = now n (subst (λ ks. At (AreRead ks) i n) (sym (append-nil pre)) read)
    all_in_turn (k ∷ post) pre n begins read = later_then n (turn_comes i node own pre post k n (begins, read)) (λ t less here.
        let same : (pre ++ k ∷ []) ++ post ≡ pre ++ k ∷ post = append_assoc pre (k ∷ []) post in
        let begins_on = from_then (At (Begins (pre ++ k ∷ post)) i)
        (lasts (Begins (pre ++ k ∷ post)) (begins_steady fl.wait b (pre ++ k ∷ post)) i own) n t less begins in
        let read_on = from_then (At (AreRead pre) i) (lasts (AreRead pre) (read_steady fl.wait.keys b pre) i own) n t less read in
        let pushed : At (AreRead (pre ++ k ∷ [])) i t = record {
          node = here.node;
          there = here.there;
          is_up = record {
            running = here.is_up.running;
            up = here.is_up.up;
            holds = read_push pre k here.is_up.running.known (known_of {K = AreRead pre} read_on here.there here.is_up.up) here.is_up.holds;
          };
        } in
        subst (λ ks. Later t (At (AreRead ks) i)) same
        (all_in_turn post (pre ++ k ∷ []) t (subst (λ ks. At (Begins ks) i t) (sym same) begins_on) pushed))

    -- from some moment on all of the majority have read them
    keys_read : (keys : List Key) (n : ℕ) → At (Begins keys) i n
        → Later (suc n) (λ t. (u : ℕ) → t ≤ u → AllHaveRead members w.group.size keys (run.world u))
    keys_read keys n begins =
        let none = at_more {L = AreRead []} (λ k h key among. absurd (none_in key among)) begins in
        let (t, less, at) = all_in_turn keys [] n begins none in
        let (u, more, all) = all_read (tell_of fl) events tests few run good most led fair fl.more.reads fl.more.laws.keys
        i t at.node at.is_up.running node own (record { there = at.there; up = at.is_up.up }) in (
          u,
          omega (arith, less, more),
          λ y low j node own.
              let has = all y low j node own in
              record { node = has.node; running = has.running; up = has.up; read = λ key among. has.read key (at.is_up.holds key among) },
        )

    -- the keys that wait at a node
    waits_begin : (n : Known) → Begins (waiting_keys n) n
    waits_begin n = ([], record { gone = []; parts = append-nil (waiting_keys n); below = All-nil _ })

    -- at any moment
    node_read : (n : ℕ) → Later n (λ t. (u : ℕ) → t ≤ u
        → AllHaveRead members w.group.size (waiting_of (member_at (run.world n).members i)) (run.world u))
    node_read zero =
        let (m, q, is_up) = led.up i node own in
        let keys : List Key = waiting_keys q.known in
        let first : AtWith (Begins (waiting_keys q.known)) w i = record {
          node = m;
          there = is_up.there;
          is_up = record { running = q; up = is_up.up; holds = waits_begin q.known };
        } in
        let begins = first_keeps events tests few run good most led (Begins (waiting_keys q.known))
        (λ n h. (h.0, record { gone = h.1.gone; parts = h.1.parts; below = h.1.below })) i first in
        let same : waiting_of (member_at (run.world 0).members i) ≡ waiting_keys q.known =
        ap (λ (v : World). waiting_of (member_at v.members i)) run.begins ∙ ap waiting_of is_up.there ∙ ap waiting_at is_up.up in
        let (t, less, all) = keys_read (waiting_keys q.known) 0 begins in
        (t, omega arith, λ u low. subst (λ ks. AllHaveRead members w.group.size ks (run.world u)) (sym same) (all u low))
    node_read (suc n) =
        let at = all_low events tests few run good most led n i node own in
        let q : Running = at.is_up.running in
        let begins : At (Begins (waiting_keys at.is_up.running.known)) i n = record {
          node = at.node;
          there = at.there;
          is_up = record { running = at.is_up.running; up = at.is_up.up; holds = waits_begin at.is_up.running.known };
        } in
        let same : waiting_of (member_at (run.world (suc n)).members i) ≡ waiting_keys at.is_up.running.known =
        ap waiting_of at.there ∙ ap waiting_at at.is_up.up in
        let (t, less, all) = keys_read (waiting_keys at.is_up.running.known) n begins in
        (t, less, λ u low. subst (λ ks. AllHaveRead members w.group.size ks (run.world u)) (sym same) (all u low))

  -- each key that waits at a node of the majority at a moment is read by each of them, from some moment on
  pub all_is_read : (n : ℕ) → AllIsRead members run n
  all_is_read n = later_then n (all_later members Read (λ i t h u low. h u (omega (arith, low))) n w.group.size
      (λ i some low own. node_read i (some, low) own n))
      (λ t less all. now t (λ u low i node own. has u i node own (λ j some below mine. all j some below mine u low))) where
        keys : ℕ → List Key
        keys j = waiting_of (member_at (run.world n).members j)

        Read : ℕ → ℕ → Type 0
        Read j t = (u : ℕ) → t ≤ u → AllHaveRead members w.group.size (waiting_of (member_at (run.world n).members j)) (run.world u)

        of_members : (j : ℕ) (key : Key) → Contains (if members j then waiting_of (member_at (run.world n).members j) else []) key
            → IsTrue (members j) × Contains (waiting_of (member_at (run.world n).members j)) key
        of_members j key among = by (members j) refl among where
          by : (x : Bool) → members j ≡ x → Contains (if x then waiting_of (member_at (run.world n).members j) else []) key
              → IsTrue (members j) × Contains (waiting_of (member_at (run.world n).members j)) key
          by true e among = (e, among)
          by false e among = absurd (none_in key among)

        has : (u i : ℕ) → IsNode w.group.size i → IsTrue (members i)
            → ((j : ℕ) → 0 < j → j ≤ w.group.size → IsTrue (members j)
            → AllHaveRead members w.group.size (waiting_of (member_at (run.world n).members j)) (run.world u))
            → HasRead (keys_waiting members (run.world n)) (run.world u) i
        has u i node own all =
            let base = all i node.0 node.1 own i node own in
            record {
              node = base.node;
              running = base.running;
              up = base.up;
              read = λ key among.
                  let (j, row, there) = of_flat_map (λ i. if members i then waiting_of (member_at (run.world n).members i) else [])
                  (range_with_len 1 (run.world n).group.size) key among in
                  let within = of_range 1 (run.world n).group.size j row in
                  let (mine, waits) = of_members j key there in
                  let size : (run.world n).group.size ≡ w.group.size = ap (λ (g : Group). g.size) (group_at run n) in
                  let other = all j (omega (arith, within.0)) (omega (arith, within.1, size)) mine i node own in
                  subst (λ (q : Running). HasKey q.known key) (one_running other.up base.up) (other.read key waits);
            }
