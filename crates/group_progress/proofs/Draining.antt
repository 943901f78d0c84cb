-- All keys that wait at nodes are submitted, batch by batch, and read.
use Rattle.std.proofs.Common.{append-nil, append_assoc, length-append, length-drop, take, drop, take-append-drop, ◌==◌, ◌≡◌, ◌≢◌, ◌∙◌, inl, inr, ℕ, zero, suc, add-mul, mul-le-mul_right, ◌+◌, ◌-◌, ◌*◌, ◌/◌, ◌<◌, ◌≤◌, IsTrue, Contains, List, [], ◌∷◌, ◌++◌, length, Some, refl, sym, ap, subst, arith, false}
use Rattle.std.proofs.lemmas.Bool.{cond-true, eq-eqb}
use Rattle.std.proofs.lemmas.List.{length_push}
use Rattle.std.proofs.lemmas.List.Elements.{All-contains, Contains-append_cases, Contains-append_left, Contains-append_right}
use Rattle.std.specs.FinMap.{get}
use Rattle.paxos_msg.specs.declared.limits.TheConstants.{MOST_CHARACTERS, PLACES}
use Rattle.paxos_msg.specs.declared.message.Body.TheVariants.{Accept, Ask, Submit}
use Rattle.paxos_msg.specs.declared.value.Value.{Value}
use Rattle.paxos_msg.specs.Ballots.{IsMajority}
use Rattle.paxos_msg.specs.Batches.{Record}
use Rattle.paxos_msg.specs.Keys.{Key, keys_of}
use Rattle.paxos_msg.specs.Messages.{IsSaid}
use Rattle.paxos_learner.specs.Entered.{keys_with}
use Rattle.paxos_learner.specs.Input.{front_values, keys_in_order}
use Rattle.paxos_learner.specs.Learner.{HasLearnedMore, Learner, front_of}
use Rattle.paxos_proposer.specs.Proposer.{Proposer, is_kept_from, next_of, proposed_at, proposing}
use Rattle.paxos_proposer.proofs.Proposals.{proposed_next}
use Rattle.group_protocol.proofs.Elements.{first_in}
use Rattle.group_protocol.specs.Known.{Known, front}
use Rattle.group_protocol.specs.Packets.{to_all}
use Rattle.group_protocol.specs.Protocol.{on_message}
use Rattle.group_protocol.specs.Tick.{asks, submits}
use Rattle.group_protocol.specs.WaitingKeys.{waiting_keys}
use Rattle.group_world.specs.Group.{World, world_state}
use Rattle.group_progress.specs.Below.{LearnLaws, BatchLaws}
use Rattle.group_progress.proofs.Unread.{IsFirstUnread}
use Rattle.group_progress.specs.GoingOn.{ReachesWithin, messages_of_batch, most_batches, ticks_of_batch}
use Rattle.group_progress.proofs.Above.{front_within, learned_is}
use Rattle.group_progress.proofs.Chasing.{backed, chase}
use Rattle.group_progress.proofs.Common.{Common, Follows, IsOf, Setting, common_after, one_known, sends_new}
use Rattle.group_progress.proofs.CountedKeys.{keys_more, keys_to, keys_up, keys_within}
use Rattle.group_progress.proofs.Fronts.{ahead_on, then_on}
use Rattle.group_progress.proofs.Within.{stay, then, within}
use Rattle.group_progress.proofs.KeysKept.{Shrinks, read_on, shrink_after, shrink_ticked}
use Rattle.group_progress.proofs.Learning.{Lead, lead_kept}
use Rattle.group_progress.proofs.Reading.{HasKey, no_more, read_agree, read_at}
use Rattle.group_progress.proofs.Steps.{Has, hears, ticks}
use Rattle.group_progress.proofs.Submitting.{covered, new_value, none_after, of_offered, size_is, submit_offers, tick_rests}
use Rattle.group_progress.proofs.Telling.{Ahead, in_bodies, some_at, tell_all, tick_keeps, tick_sends}
use Rattle.group_progress.proofs.Cycle.{Settled, first_batch, lead_read, new_key, unread}
use Rattle.group_progress.proofs.Steps.{IsCost, each_at_cost, turn_more}
use Rattle.group_progress.proofs.Learning.{more_learned}

-- a settled world in which the leading node proposes next at this place, and has learned more than this
pub record Next (x : Setting) (next : ℕ) (l : Learner) (v : World) : Type 0 where
  pub proposer : Proposer
  pub learner : Learner
  pub offered : List Key
  pub settled : Settled x v proposer learner offered
  pub at : next_of proposer ≡ next
  pub more : HasLearnedMore l.learned learner.learned

-- the batches that so many keys of one node make: 32 keys in each but the last
abbrev batches_of : ℕ → ℕ
batches_of keys = (keys + (MOST_CHARACTERS - 1)) / MOST_CHARACTERS

enough_batches : (a b : ℕ) → b ≤ a → b ≤ batches_of a * MOST_CHARACTERS
enough_batches a b less = omega arith

batches_add : (k a b c : ℕ) → c ≡ a + b → most_batches k a + batches_of b ≤ most_batches (suc k) c
batches_add k a b c e = omega arith

batches_grow : (k a b : ℕ) → a ≤ b → most_batches k a ≤ most_batches (suc k) b
batches_grow k a b less = omega arith

next_up : (p : Proposer) (v : Value) → next_of (proposing p (Some v)) ≡ next_of p + 1
next_up p v = omega (arith, length_push p.values v)

module _ (more : BatchLaws) (learn : LearnLaws) (x : Setting) (most : IsMajority x.group.size x.members) (leader : IsOf x x.leader) where
  module _ {p : Proposer} {l : Learner} {offered : List Key} where
    -- one batch of node `i`
    submit_once : (i : ℕ) → IsOf x i → (w : World) → Settled x w p l offered → (g : Follows x w i) → (k : Key) (rest : List Key)
        → waiting_keys g.known ≡ k ∷ rest → next_of p + 1 < PLACES
        → ReachesWithin (ticks_of_batch x.group.size) (messages_of_batch x.group.size) x.members x.count w
        (λ v. Next x (next_of p + 1) l v ×
        ((h : Follows x v i) → length (waiting_keys h.known) ≤ length (k ∷ rest) - MOST_CHARACTERS))
    submit_once i here w s g k rest waits room =
        let laws = more.laws in
        let c = s.common in
        let n : Known = g.known in
        let low : next_of p < PLACES = omega (arith, room) in
        let keeps = tick_keeps n n.proposer in
        let (u, batch, (others, keys)) = first_batch more n k rest waits in
        within (then_on learn laws.front_rises (ticks laws.events c.good i here.own g.has (λ v s. s)) (λ v1 s1 rises1.
        let c1 = common_after x c s1 (ap (λ (r : Record). r.promised) keeps.kept ∙ g.promised) (shrink_ticked n g.keys) in
        let lead1 = lead_kept x s1 s.lead (λ is.
        let same : n ≡ s.lead.known = one_known g.has (subst (λ j. Has w j s.lead.known) (sym is) s.lead.has) in (
          tick_rests n n.proposer p (ap (λ (k : Known). k.proposer) same ∙ s.lead.proposer) s.none,
          keeps.learner ∙ ap (λ (k : Known). k.learner) same ∙ s.lead.learner,
          keeps.offered ∙ ap (λ (k : Known). k.offered) same ∙ s.lead.offers,
        )) in
        let submit : Contains (asks n) (to_all (Submit u)) =
        subst (λ o. Contains (submits o ++ to_all (Ask (front n)) ∷ []) (to_all (Submit u))) (sym batch)
        (first_in (to_all (Submit u)) (to_all (Ask (front n)) ∷ [])) in
        let new_submit = sends_new x c s1 (Submit u) (in_bodies _ (to_all (Submit u)) (tick_sends n n.proposer _ submit)) in
        then_on learn laws.front_rises (hears laws.events c1.good x.leader leader.own lead1.has new_submit (λ v s. s)) (λ v2 s2 rises2.
        let k1 : Known = lead1.known in
        let lf = c1.follow x.leader leader in
        let same : lf.known ≡ k1 = one_known lf.has lead1.has in
        let size = size_is laws x most c s.lead in
        let new = new_value k1 u k others keys (new_key more x most leader s i here g.has low k1 lead1.learner lead1.offers k rest waits) in
        let offers = submit_offers k1 i p u lead1.proposer (covered laws x most p size s.covers (next_of p) low) s.none low new in
        let c2 = common_after x c1 s2 (ap (λ (r : Record). r.promised) offers.kept ∙ ap (λ (k : Known). k.kept.promised) (sym same) ∙
        lf.promised)
        (shrink_after laws.keys k1 i (Submit u) (subst (λ (k : Known). Shrinks (x.keys x.leader) k) same lf.keys)) in
        let q : Proposer = proposing p (Some u) in
        let lead2 : Lead x v2 q l (keys_with offered u) = record {
          known = (on_message k1 i (Submit u)).node;
          has = s2.now;
          proposer = offers.proposer;
          ballot = s.lead.ballot;
          learner = offers.learner ∙ lead1.learner;
          offers = offers.offered ∙ ap (λ ks. keys_with ks u) lead1.offers;
        } in
        let up = next_up p u in
        then_on learn laws.front_rises (chase laws x most leader 1 v2 q l (keys_with offered u) c2 lead2 s.first
        (omega (arith, up, s.even)))
        (λ v3 chased rises3.
        let (c3, (far, over)) = chased in
        let none4 : is_kept_from q.kept (next_of q) ≡ false = subst (λ m. is_kept_from q.kept m ≡ false) (sym up)
        (none_after (next_of p) p.kept s.none) in
        let room4 : next_of q < PLACES = omega (arith, room, up) in
        let low3 : (j : ℕ) → IsOf x j → Ahead (front_of l.learned) v3 j = λ j of. ahead_on rises3 (c3.follow j of).has
        (ahead_on rises2 (c2.follow j of).has (ahead_on rises1 (c1.follow j of).has (s.ahead j of))) in
        let within3 = front_within laws x most c3 far.lead.has far.lead s.covers none4 room4 in
        let one_behind : front_of far.now.learned ≤ front_of l.learned + 1 =
        omega (arith, within3, up, s.even, ap (λ (l : Learner). front_of l.learned) far.lead.learner) in
        then (tell_all laws x most leader q far.now (keys_with offered u) (front_of l.learned) 1 one_behind v3 c3 far.lead low3) (λ v4 told.
        let (c4, lead4, ahead4) = told in
        let within = front_within laws x most c4 lead4.has lead4 s.covers none4 room4 in
        let even : front_of far.now.learned ≡ next_of q =
        omega (arith, over, within, ap (λ (l : Learner). front_of l.learned) lead4.learner) in
        let place : (y : Key) → Contains (keys_of u) y → Contains (keys_in_order (front_values far.now.learned)) y = λ y among.
        (let below : next_of p < front_of far.now.learned = omega (arith, even, up) in
        let (a, at) = some_at far.now.learned (next_of p) ((laws.front far.now).below (next_of p) below) in
        let there : proposed_at q (next_of p) ≡ Some u = proposed_next p u (next_of p) ∙ cond-true (next_of p == next_of p) (Some u)
        (proposed_at p (next_of p)) (eq-eqb (next_of p) (next_of p) refl) in
        let said : IsSaid (world_state v4).sent (Accept x.ballot (next_of p) u) =
        subst (λ b. IsSaid (world_state v4).sent (Accept b (next_of p) u)) lead4.ballot (
          x.leader,
          (backed laws x most c4 lead4).sent_all (next_of p) u there,
        ) in
        let is : u ≡ a = learned_is laws x most c4 lead4.has (next_of p) a u
        (subst (λ (l : Learner). get l.learned (next_of p) ≡ Some a) (sym lead4.learner) at) said in
        read_at more.reads far.now.learned (next_of p) a y at below (subst (λ v. Contains (keys_of v) y) is among)) in
        let onward : (y : Key) → Contains (keys_in_order (front_values l.learned)) y → Contains
        (keys_in_order (front_values far.now.learned)) y = λ y read.
        (let (values, more_values) = laws.keys.more_fronts l far.now far.more in
        let (tail, longer) = laws.keys.more_keys (front_values l.learned) values in
        subst (λ ks. Contains ks y) (sym (ap keys_in_order more_values ∙ longer))
        (Contains-append_left (keys_in_order (front_values l.learned)) tail y read)) in
        let settled : Settled x v4 q far.now (keys_with offered u) = record {
          common = c4;
          lead = lead4;
          covers = s.covers;
          none = none4;
          even = even;
          first = omega (arith, s.first, even, up, s.even);
          read = λ y among. elim (of_offered offered (keys_of u) y among) [ inl old ↦ onward y (s.read y old) | inr new ↦ place y new ];
          ahead = ahead4;
        } in
        stay (
          record { proposer = q; learner = far.now; offered = keys_with offered u; settled = settled; at = up; more = far.more },
          λ h.
              let gives : (y : Key) → Contains (keys_in_order (front_values far.now.learned)) y → HasKey h.known y = λ y read.
              (let ahead = ahead4 i here in
              let one : ahead.known ≡ h.known = one_known ahead.has h.has in
              let far_on : front lead4.known ≤ front h.known = subst (λ (m : Known). front lead4.known ≤ front m) one
              (subst (λ (l : Learner). front_of l.learned ≤ front ahead.known) (sym lead4.learner) ahead.far) in
              read_agree more.reads laws.keys c4.good lead4.has h.has far_on y
              (subst (λ (l : Learner). Contains (keys_in_order (front_values l.learned)) y) (sym lead4.learner) read)) in
              let ks : List Key = waiting_keys n in
              let sent : List Key = take MOST_CHARACTERS ks in
              let parts : (g.keys.gone ++ sent) ++ drop MOST_CHARACTERS ks ≡ h.keys.gone ++ waiting_keys h.known =
              append_assoc g.keys.gone sent (drop MOST_CHARACTERS ks)
              ∙ ap (λ keys. g.keys.gone ++ keys) (take-append-drop MOST_CHARACTERS ks) ∙ sym g.keys.parts ∙ h.keys.parts in
              let left = no_more (keys_in_order (front_values h.known.learner.learned)) (g.keys.gone ++ sent) (drop MOST_CHARACTERS ks)
              h.keys.gone (waiting_keys h.known) parts (λ y among. elim (Contains-append_cases g.keys.gone sent y among) [
                | inl gone ↦ gives y (onward y (lead_read more x most leader s i g.has low y
                    (All-contains (λ y. HasKey n y) g.keys.gone y g.keys.below gone)))
                | inr here ↦ gives y (place y (subst (λ ks. Contains ks y) (sym (more.batch n u batch)) here))
              ]) (unread more x most leader c4 h.has) in
              omega (arith, left, length-drop MOST_CHARACTERS ks, ap (λ (keys : List Key). length keys) waits),
        )))))) (omega arith) (omega arith)

  -- ---- all that waits at one node

  -- a settled world in which the leading node proposes next at this place or below, and has learned more than this
  record At (low : ℕ) (base : Learner) (v : World) : Type 0 where
    pub proposer : Proposer
    pub learner : Learner
    pub offered : List Key
    pub settled : Settled x v proposer learner offered
    pub within : next_of proposer ≤ low
    pub further : HasLearnedMore base.learned learner.learned

  weaker : {low high : ℕ} {base : Learner} {v : World} → low ≤ high → At low base v → At high base v
  weaker less a = record {
    proposer = a.proposer;
    learner = a.learner;
    offered = a.offered;
    settled = a.settled;
    within = omega (arith, less, a.within);
    further = a.further;
  }

  -- node `i` has no key that waits
  abbrev IsDrained : World → ℕ → Type 0
  IsDrained v i = (h : Follows x v i) → waiting_keys h.known ≡ []

  drained_by : {v : World} {i : ℕ} (g : Follows x v i) → waiting_keys g.known ≡ [] → IsDrained v i
  drained_by g e h = ap waiting_keys (one_known h.has g.has) ∙ e

  empty_by : (ks : List Key) → length ks ≤ 0 → ks ≡ []
  empty_by [] e = refl
  empty_by (k ∷ ks) e = absurd (omega (arith, e))

  drain_one : (i : ℕ) → IsOf x i → (base : Learner) (fuel low : ℕ) (w : World) → At low base w → (g : Follows x w i) → length
      (waiting_keys g.known) ≤ fuel * MOST_CHARACTERS
      → low + fuel < PLACES → ReachesWithin (fuel * ticks_of_batch x.group.size)
      (fuel * messages_of_batch x.group.size) x.members x.count w
      (λ v. At (low + fuel) base v × IsDrained v i)
  drain_one i here base zero low w a g short room =
      within (stay (weaker (omega arith) a, drained_by g (empty_by (waiting_keys g.known) short))) (omega arith) (omega arith)
  drain_one i here base (suc fuel) low w a g short room = by (drain_one i here base fuel) (waiting_keys g.known) refl where
    by : ((low : ℕ) (w : World) → At low base w → (g : Follows x w i) → length (waiting_keys g.known) ≤ fuel * MOST_CHARACTERS
        → low + fuel < PLACES → ReachesWithin (fuel * ticks_of_batch x.group.size)
        (fuel * messages_of_batch x.group.size) x.members x.count w
        (λ v. At (low + fuel) base v × IsDrained v i))
        → (ks : List Key) → waiting_keys g.known ≡ ks → ReachesWithin (suc fuel * ticks_of_batch x.group.size)
        (suc fuel * messages_of_batch x.group.size) x.members x.count w
        (λ v. At (low + suc fuel) base v × IsDrained v i)
    by again [] e = within (stay (weaker (omega arith) a, drained_by g e)) (omega arith) (omega arith)
    by again (k ∷ rest) e =
        within (then (submit_once i here w a.settled g k rest e (omega (arith, a.within, room))) (λ v next.
        let (n, less) = next in
        let h = n.settled.common.follow i here in
        let onward : At (low + 1) base v = record {
          proposer = n.proposer;
          learner = n.learner;
          offered = n.offered;
          settled = n.settled;
          within = omega (arith, n.at, a.within);
          further = more_learned more.laws x most base a.learner n.learner a.further n.more;
        } in
        let shorter = less h in
        then (again (low + 1) v onward h (omega (arith, shorter, short, ap (λ (ks : List Key). length ks) e)) (omega (
          arith,
          room,
        ))) (λ y done.
        stay (weaker (omega arith) done.0, done.1)))) (omega (arith, turn_more fuel (ticks_of_batch x.group.size)))
        (omega (arith, turn_more fuel (messages_of_batch x.group.size)))

  -- ---- all nodes

  -- how many keys waited at the first `k` nodes
  abbrev waiting_to : ℕ → ℕ
  waiting_to k = keys_to x.members x.keys k

  -- no more wait at a node than did
  shorter : {keys : List Key} {n : Known} (s : Shrinks keys n) → length (waiting_keys n) ≤ length keys
  shorter {keys} {n} s = omega (arith, ap (λ (ks : List Key). length ks) s.parts, length-append s.gone (waiting_keys n))

  -- the keys of node `i` are read by the leading node
  abbrev IsRead : ℕ → World → Type 0
  IsRead i v = (h : Known) → Has v x.leader h → (k : Key) → Contains (x.keys i) k → HasKey h k

  gone_all : {keys : List Key} {n : Known} (s : Shrinks keys n) → waiting_keys n ≡ [] → (k : Key) → Contains keys k → HasKey n k
  gone_all {keys} {n} s e k among =
      let all : keys ≡ s.gone = s.parts ∙ ap (λ ks. s.gone ++ ks) e ∙ append-nil s.gone in
      All-contains (λ k. HasKey n k) s.gone k s.below (subst (λ ks. Contains ks k) all among)

  drain_next : (low : ℕ) → low + waiting_to x.group.size < PLACES → (base : Learner) (k : ℕ) (w : World) → suc k ≤ x.group.size →
      IsTrue (x.members (suc k))
      → At (low + waiting_to k) base w
      → ReachesWithin (batches_of (length (x.keys (suc k))) * ticks_of_batch x.group.size)
      (batches_of (length (x.keys (suc k))) * messages_of_batch x.group.size) x.members x.count w
      (λ v. At (low + waiting_to (suc k)) base v × IsRead (suc k) v ×
      ((j : ℕ) → j ≢ suc k → IsRead j w → IsRead j v))
  drain_next low room base k w below own a =
      let here : IsOf x (suc k) = record { some = omega arith; below = below; own = own } in
      let c = a.settled.common in
      let g = c.follow (suc k) here in
      let more_keys = keys_up x.members x.keys k own in
      let within_all = keys_within x.members x.keys (suc k) x.group.size below in
      let start : At (low + waiting_to k) a.learner w = record {
        proposer = a.proposer;
        learner = a.learner;
        offered = a.offered;
        settled = a.settled;
        within = a.within;
        further = record { stays = λ s v e. e };
      } in
      within (then (drain_one (suc k) here a.learner (batches_of (length (x.keys (suc k)))) (low + waiting_to k) w start g
      (enough_batches (length (x.keys (suc k))) (length (waiting_keys g.known)) (shorter g.keys)) (omega (
        arith,
        room,
        more_keys,
        within_all,
      )))
      (λ v done.
      let (at, drained) = done in
      let lead = at.settled.lead in
      let h = at.settled.common.follow (suc k) here in
      let free : next_of at.proposer < PLACES = omega (arith, at.within, room, more_keys, within_all) in
      let onward : At (low + waiting_to (suc k)) base v = record {
        proposer = at.proposer;
        learner = at.learner;
        offered = at.offered;
        settled = at.settled;
        within = omega (arith, at.within, more_keys);
        further = more_learned more.laws x most base a.learner at.learner a.further at.further;
      } in
      let own_read : IsRead (suc k) v = λ m has y among.
      (let is : lead.known ≡ m = one_known lead.has has in
      let read = lead_read more x most leader at.settled (suc k) h.has free y (gone_all h.keys (drained h) y among) in
      subst (λ (m : Known). HasKey m y) is (subst (λ (l : Learner). Contains (keys_in_order (front_values l.learned)) y)
      (sym lead.learner) read)) in
      let others : (j : ℕ) → j ≢ suc k → IsRead j w → IsRead j v = λ j other old m has y among.
      (let is : lead.known ≡ m = one_known lead.has has in
      let was = old a.settled.lead.known a.settled.lead.has y among in
      let grown : HasLearnedMore a.settled.lead.known.learner.learned lead.known.learner.learned =
      subst (λ (l : Learner). HasLearnedMore a.settled.lead.known.learner.learned l.learned) (sym lead.learner)
      (subst (λ (l : Learner). HasLearnedMore l.learned at.learner.learned) (sym a.settled.lead.learner) at.further) in
      subst (λ (m : Known). HasKey m y) is (read_on more.laws.keys a.settled.lead.known lead.known y grown was)) in
      stay (onward, own_read, others))) (omega arith) (omega arith)

  -- a node that has read all keys which waited there has none that wait
  none_left : {v : World} (c : Common x v) {j : ℕ} (h : Follows x v j) → ((k : Key) → Contains (x.keys j) k → HasKey h.known k) →
      waiting_keys h.known ≡ []
  none_left c {j} h read = by (waiting_keys h.known) h.keys.parts (unread more x most leader c h.has) where
    by : (ks : List Key) → x.keys j ≡ h.keys.gone ++ ks → IsFirstUnread (keys_in_order (front_values h.known.learner.learned)) ks → ks ≡ []
    by [] parts first = refl
    by (k ∷ ks) parts first = absurd (first (read k (subst (λ keys. Contains keys k) (sym parts)
        (Contains-append_right h.keys.gone (k ∷ ks) k (first_in k ks)))))

  -- what the keys of one more node take, where each batch takes so many
  key_turn : (c : ℕ) → IsCost x.members (λ k. batches_of (length (x.keys (suc k))) * c) (λ k. most_batches k (waiting_to k) * c)
  key_turn c = record {
    grows = λ k. mul-le-mul_right c (batches_grow k (waiting_to k) (waiting_to (suc k)) (keys_more x.members x.keys k));
    adds = λ k own.
        let b : ℕ = batches_of (length (x.keys (suc k))) in
        let less = mul-le-mul_right c (batches_add k (waiting_to k) (length (x.keys (suc k))) (waiting_to (suc k))
        (keys_up x.members x.keys k own)) in
        omega (arith, less, add-mul (most_batches k (waiting_to k)) b c);
  }

  -- in the end each node that acts has read all keys of all of them, and none waits there
  pub drain_all : (p : Proposer) (l : Learner) (offered : List Key) (w : World) → Settled x w p l offered → next_of p + waiting_to
      x.group.size < PLACES
      → ReachesWithin (most_batches x.group.size (waiting_to x.group.size) * ticks_of_batch x.group.size)
      (most_batches x.group.size (waiting_to x.group.size) * messages_of_batch x.group.size) x.members x.count w
      (λ v. (j : ℕ) → IsOf x j → (h : Follows x v j) ×
      ((i : ℕ) → IsOf x i → (k : Key) → Contains (x.keys i) k → HasKey h.known k)
      × (waiting_keys h.known ≡ []))
  drain_all p l offered w s room =
      let start : At (next_of p + waiting_to 0) l w = record {
        proposer = p;
        learner = l;
        offered = offered;
        settled = s;
        within = omega arith;
        further = record { stays = λ s v e. e };
      } in
      let n : ℕ = x.group.size in
      let batches : ℕ → ℕ = λ k. batches_of (length (x.keys (suc k))) in
      let all : ℕ → ℕ = λ k. most_batches k (waiting_to k) in
      within (then (each_at_cost n (λ k. batches k * ticks_of_batch n) (λ k. batches k * messages_of_batch n)
      (λ k. all k * ticks_of_batch n) (λ k. all k * messages_of_batch n) (key_turn (ticks_of_batch n)) (key_turn (messages_of_batch n))
      (λ k. At (next_of p + waiting_to k) l) IsRead
      (λ k v none a. weaker (omega (arith, keys_more x.members x.keys k)) a) (drain_next (next_of p) room l) x.group.size
      (omega arith) w start) (λ v all.
      let at = all.0 in
      let lead = at.settled.lead in
      stay (λ j of_j.
      let h = at.settled.common.follow j of_j in
      let ahead = at.settled.ahead j of_j in
      let is : ahead.known ≡ h.known = one_known ahead.has h.has in
      let far : front lead.known ≤ front h.known = subst (λ (m : Known). front lead.known ≤ front m) is
      (subst (λ (l : Learner). front_of l.learned ≤ front ahead.known) (sym lead.learner) ahead.far) in
      let read : (i : ℕ) → IsOf x i → (k : Key) → Contains (x.keys i) k → HasKey h.known k = λ i of_i k among.
      read_agree more.reads more.laws.keys at.settled.common.good lead.has h.has far k
      (all.1 i of_i.some of_i.below of_i.own lead.known lead.has k among) in
      (h, read, none_left at.settled.common h (read j of_j))))) (omega arith) (omega arith)
