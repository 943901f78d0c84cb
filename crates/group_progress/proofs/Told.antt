-- What one node of the majority has learned, each of them learns in a fair run.
use Rattle.std.proofs.Common.{◌≡◌, ◌≢◌, ◌∙◌, ◌⊎◌, inl, inr, ℕ, zero, suc, ◌-◌, ◌<◌, ◌≤◌, min, Bool, IsTrue, Contains, [], Some, None, refl, sym, ap, subst, arith}
use Rattle.std.proofs.lemmas.Bool.{cases_eq}
use Rattle.std.specs.FinMap.{FinMap, get}
use Rattle.std.specs.Ordering.{nat_cmp}
use Rattle.paxos_msg.specs.declared.ballot.Ballot.{Ballot}
use Rattle.paxos_msg.specs.declared.message.Body.TheVariants.{Ask, Tell}
use Rattle.paxos_msg.specs.declared.value.Value.{Value}
use Rattle.paxos_msg.specs.declared.limits.TheConstants.{PLACES}
use Rattle.paxos_msg.specs.Ballots.{IsMajority}
use Rattle.paxos_msg.specs.Batches.{Body}
use Rattle.paxos_msg.specs.Fits.{IsNode}
use Rattle.std.proofs.lemmas.List.Elements.{Contains-append_left}
use Rattle.std.proofs.lemmas.Option.{slice_get_within}
use Rattle.paxos_msg.specs.Keys.{Key}
use Rattle.paxos_learner.specs.Input.{front_values, keys_in_order}
use Rattle.paxos_learner.specs.Learner.{AreInWindow, HasLearnedMore, IsFront, Learner, front_of}
use Rattle.group_protocol.specs.declared.limits.TheConstants.{MOST_TOLD}
use Rattle.group_protocol.specs.Known.{Known, Response, front}
use Rattle.group_protocol.specs.Packets.{to_all, to_one}
use Rattle.group_protocol.specs.Protocol.{on_message}
use Rattle.group_protocol.specs.Tick.{on_tick}
use Rattle.group_node.specs.Deeds as deed
use Rattle.group_node.specs.NodeCalls.{Running}
use Rattle.group_world.specs.declared.event.Act.TheVariants as act
use Rattle.group_world.specs.Event.{DoesAt}
use Rattle.group_world.specs.Group.{IsUp, World, world_state}
use Rattle.group_world.specs.Member.{Member}
use Rattle.group_progress.specs.GoingOn.{AllHaveRead}
use Rattle.group_progress.specs.Fair.{Endless, IsFair, IsLed, Later}
use Rattle.group_world.proofs.WorldAsGroup.{changed_here, running}
use Rattle.group_progress.specs.Below.{EventLaws, TestLaws, KeyLaws, TellLaws, ReadLaws}
use Rattle.group_progress.proofs.Calm.{IsSteady, UpWith, made_leaves}
use Rattle.group_progress.proofs.Covered.{at_more, fits_heard, known_of}
use Rattle.group_progress.proofs.Going.{Good, fits_me}
use Rattle.group_progress.proofs.Hearing.{hears_it, made_sends, sends_it}
use Rattle.group_progress.proofs.Learners.{told}
use Rattle.group_rules.proofs.Lists.{in_from_place}
use Rattle.group_progress.proofs.Promising.{all_low, stays, ticks_at}
use Rattle.group_progress.proofs.Runs.{AtWith, good_at}
use Rattle.group_progress.proofs.Reading.{HasKey, has_learned, prefix_by}
use Rattle.group_progress.proofs.Steps.{Has}
use Rattle.group_progress.proofs.Stages.{Stays, all_later, from_then, later_then, now}
use Rattle.group_progress.proofs.Telling.{asks_front, some_at, tells, tick_keeps, tick_sends}

abbrev pub IsFar : ℕ → Known → Type 0
IsFar c n = c ≤ front n

module _ (tell : TellLaws) where
  pub far_steady : (b : Ballot) (c : ℕ) → IsSteady b (IsFar c)
  far_steady b c = record {
    message = λ n j body calm h. let more = tell.rises n.learner (on_message n j body).node.learner (tell.message n j body) in omega
        (arith, h, more);
    tick = λ n h. subst (λ (l : Learner). c ≤ front_of l.learned) (sym (tick_keeps n n.proposer).learner) h;
    typed = λ n byte h. h;
  }

  -- a Tell at the front
  tell_up : (n : Known) (j c : ℕ) (v : Value) → c ≤ front n → suc c ≤ front (on_message n j (Tell c v)).node
  tell_up n j c v low = by (cases_eq c (front n)) where
    new : Known
    new = (on_message n j (Tell c v)).node

    rises : front n ≤ front (on_message n j (Tell c v)).node
    rises = tell.rises n.learner (on_message n j (Tell c v)).node.learner (tell.message n j (Tell c v))

    by : (c ≡ front n) ⊎ (c ≢ front n) → suc c ≤ front (on_message n j (Tell c v)).node
    by (inr other) = omega (arith, low, rises, other)
    by (inl same) =
        let l : Learner = (on_message n j (Tell c v)).node.learner in
        let none : get n.learner.learned c ≡ None = subst (λ s. get n.learner.learned s ≡ None) (sym same) (tell.front n.learner).here in
        let learned : get l.learned c ≡ Some v = told n.learner c v none (omega (arith, same)) in
        elim (cases_eq (front_of l.learned) c) [
          | inl is ↦ let no : Some v ≡ None = sym learned ∙ subst (λ s. get l.learned s ≡ None) is (tell.front l).here in absurd cc
          | inr other ↦ omega (arith, rises, same, other)
        ]

module _ (tell : TellLaws) (laws : EventLaws) (tests : TestLaws)
    (few : (learned : FinMap nat_cmp Value) → AreInWindow learned → front_of learned ≤ PLACES)
    {members : ℕ → Bool} {leader : ℕ} {b : Ballot} {w : World} (run : Endless w) (good : Good w) (most : IsMajority w.group.size members)
    (led : IsLed members leader b run) (fair : IsFair members run) where
  abbrev pub FarAt : ℕ → ℕ → ℕ → Type 0
  FarAt i c n = AtWith (IsFar c) (run.world (suc n)) i

  pub far_stays : (i c : ℕ) → IsTrue (members i) → Stays (FarAt i c)
  far_stays i c own = stays laws tests few run good most led (IsFar c) (far_steady tell b c) i own

  module _ (i j : ℕ) (node : IsNode w.group.size i) (own : IsTrue (members i)) (other : IsNode w.group.size j)
      (mine : IsTrue (members j)) where
    -- the node is told
    hears_tell : (n c : ℕ) (v : Value) → FarAt i c n
        → DoesAt (run.world (suc n)) i None (deed.Hear (record { sender = j; body = Tell c v })) (run.done (suc n))
        (run.world (suc (suc n)))
        → FarAt i (suc c) (suc n)
    hears_tell n c v at does =
        let (q, up, ends) = does.does in
        let h = known_of {K = IsFar c} at does.there up in
        let left = made_leaves does.node q.progress (on_message q.known j (Tell c v)) [] does.left ends in
        record {
          node = does.left.member;
          there = rw does.leads (changed_here (run.world (suc n)).members i does.node does.left.member does.there);
          is_up = subst (UpWith (IsFar (suc c))) (sym left) (record { running = _; up = refl; holds = tell_up tell q.known j c v h });
        }

    -- the other is asked
    hears_ask : (n c : ℕ) → FarAt i c n → FarAt j (suc c) n
        → DoesAt (run.world (suc n)) j None (deed.Hear (record { sender = i; body = Ask c })) (run.done (suc n)) (run.world (suc (suc n)))
        → Contains (world_state (run.world (suc n))).sent (record { sender = i; body = Ask c })
        → Later n (FarAt i (suc c))
    hears_ask n c at far does among =
        let (q, up, ends) = does.does in
        let sound = (good_at laws run good (suc n)).holds.sound in
        let is_up : IsUp (run.world (suc n)) j does.node q = record { there = does.there; up = up } in
        let h = known_of {K = IsFar (suc c)} far does.there up in
        let learned = q.known.learner.learned in
        let (v, there) = some_at learned c ((tell.front q.known.learner).below c (omega (arith, h))) in
        let done : Response = on_message q.known i (Ask c) in
        let fits = fits_me sound is_up (laws.fits_message q.known i (Ask c) (running sound is_up).ranges
        (fits_heard laws tests few run good most led fair n j (record { sender = i; body = Ask c }) is_up among)) in
        let sends = tells learned i c (min MOST_TOLD (front q.known - c)) v there (omega (arith, h)) in
        let (k, way) = sends_it laws tests few run good most led (suc n) j i mine does.there done (to_one i (Tell c v)) fits sends refl
        does.left
        (made_sends does.node q.progress done does.left ends) does.leads in
        let (t, less, (heard, place)) = hears_it laws tests few run good most led fair (suc n) k i _ node own way in
        let still = from_then (FarAt i c) (far_stays i c own) n t (omega (arith, less)) at in
        (suc t, omega (arith, less), hears_tell t c v still heard)

    -- the node ticks
    ticks_then : (n c t : ℕ) → n ≤ t → FarAt i c n → FarAt j (suc c) n
        → DoesAt (run.world (suc t)) i None deed.Tick (run.done (suc t)) (run.world (suc (suc t))) → Later n (FarAt i (suc c))
    ticks_then n c t later at far does =
        let (q, up, ends) = does.does in
        let still = from_then (FarAt i c) (far_stays i c own) n t later at in
        let h = known_of {K = IsFar c} still does.there up in
        elim (cases_eq c (front q.known)) [
          | inr apart ↦ (
            t,
            later,
            record {
              node = does.node;
              there = does.there;
              is_up = record
                  { running = q; up = up; holds = omega (arith, h, apart) };
            },
          )
          | inl same ↦
              let sound = (good_at laws run good (suc t)).holds.sound in
              let is_up : IsUp (run.world (suc t)) i does.node q = record { there = does.there; up = up } in
              let fits = fits_me sound is_up (laws.fits_tick q.known (running sound is_up).ranges) in
              let sends = tick_sends q.known q.known.proposer (to_all (Ask (front q.known))) (asks_front q.known) in
              let (k, way) = sends_it laws tests few run good most led (suc t) i j own does.there (on_tick q.known)
              (to_all (Ask (front q.known))) fits sends tt does.left
              (made_sends does.node q.progress (on_tick q.known) does.left ends) does.leads in
              let (u, less, (heard, place)) = hears_it laws tests few run good most led fair (suc t) k j _ other mine way in
              let low : n ≤ u = omega (arith, later, less) in
              let here = from_then (FarAt i c) (far_stays i c own) n u low at in
              let there = from_then (FarAt j (suc c)) (far_stays j (suc c) mine) n u low far in
              let (v, more, last) = hears_ask u c here there
              (subst (λ s. DoesAt (run.world (suc u)) j None (deed.Hear (record { sender = i; body = Ask s })) (run.done (suc u))
              (run.world (suc (suc u)))) (sym same) heard)
              (subst (λ s. Contains (world_state (run.world (suc u))).sent (record { sender = i; body = Ask s })) (sym same)
              (in_from_place _ k _ place)) in
              (v, omega (arith, low, more), last)
        ]

    told_once : (n c : ℕ) → FarAt i c n → FarAt j (suc c) n → Later n (FarAt i (suc c))
    told_once n c at far = by (fair.ticks (suc n) i node own) where
      by : Later (suc n) (λ t. (run.event t).act ≡ act.Tick i) → Later n (FarAt i (suc c))
      by (zero, less, acts) = absurd (omega (arith, less))
      by (suc t, less, acts) = ticks_then n c t (omega (arith, less)) at far (ticks_at laws tests few run good most led t i own acts)

    -- the node learns as much as the other has learned now
    pub told_all : (f n : ℕ) → FarAt j f n → Later n (FarAt i f)
    told_all zero n far = now n (at_more (λ k h. omega arith) (all_low laws tests few run good most led n i node own))
    told_all (suc f) n far =
        let low = at_more {K = IsFar (suc f)} {L = IsFar f} (λ k h. omega (arith, h)) far in
        later_then n (told_all f n low) (λ t less at. told_once t f at
        (from_then (FarAt j (suc f)) (far_stays j (suc f) mine) n t less far))

  -- ---- what one has read, all come to read

  abbrev IsMore : Learner → Known → Type 0
  IsMore l n = HasLearnedMore l.learned n.learner.learned

  more_steady : (l : Learner) → IsSteady b (IsMore l)
  more_steady l = record {
    message = λ n j body calm h. record { stays = λ s v e. (tell.message n j body).stays s v (h.stays s v e) };
    tick = λ n h. subst (λ (x : Learner). HasLearnedMore l.learned x.learned) (sym (tick_keeps n n.proposer).learner) h;
    typed = λ n byte h. h;
  }

  read_later : ReadLaws → KeyLaws → {v : World} → Good v → {i j : ℕ} {a k : Known} (l : Learner) → Has v j a → IsMore l a → Has v i k →
      front_of l.learned ≤ front k
      → (key : Key) → Contains (keys_in_order (front_values l.learned)) key → HasKey k key
  read_later reads keys {v} good {i} {j} {a} {k} l first more second far key read =
      let la : FinMap nat_cmp Value = l.learned in
      let lb : FinMap nat_cmp Value = k.learner.learned in
      let (rest, is) = prefix_by (front_values la) (front_values lb) (λ s x e.
      let low : s < front_of la = omega (arith, slice_get_within (front_values la) s x e, reads.many la (front_of la) (omega arith)) in
      let at : get la s ≡ Some x = sym (reads.at_place la (front_of la) s (omega arith) low) ∙ e in
      let (u, there) = some_at lb s ((reads.front lb).below s (omega (arith, low, far))) in
      let one : x ≡ u = reads.agree (world_state v) good.holds.rules j i s x u (has_learned first s x (more.stays s x at))
      (has_learned second s u there) in
      reads.at_place lb (front k) s (omega arith) (omega (arith, low, far)) ∙ there ∙ ap Some (sym one)) in
      let (longer, all) = keys.more_keys (front_values la) rest in
      subst (λ ks. Contains ks key) (sym (ap keys_in_order is ∙ all))
      (Contains-append_left (keys_in_order (front_values la)) longer key read)

  has_of : {K : Known → Type 0} {v : World} {i : ℕ} (at : AtWith K v i) → Has v i at.is_up.running.known
  has_of at = record { node = at.node; progress = at.is_up.running.progress; there = at.there; up = at.is_up.up }

  pub all_read : ReadLaws → KeyLaws → (j n : ℕ) (m : Member) (q : Running) → IsNode w.group.size j → IsTrue (members j) → IsUp
      (run.world (suc n)) j m q
      → Later (suc n) (λ t. (u : ℕ) → t ≤ u → AllHaveRead members w.group.size (keys_in_order (front_values q.known.learner.learned))
      (run.world u))
  all_read reads keys j n m q other mine is_up = by all where
    from : AtWith (IsFar (front_of q.known.learner.learned)) (run.world (suc n)) j
    from = record { node = m; there = is_up.there; is_up = record { running = q; up = is_up.up; holds = omega arith } }

    more : AtWith (IsMore q.known.learner) (run.world (suc n)) j
    more = record { node = m; there = is_up.there; is_up = record { running = q; up = is_up.up; holds = record { stays = λ s v e. e } } }

    all : Later n (λ t. (i : ℕ) → 0 < i → i ≤ w.group.size → IsTrue (members i) → IsTrue (members i) → FarAt i
        (front_of q.known.learner.learned) t)
    all = all_later members (λ i t. IsTrue (members i) → FarAt i (front_of q.known.learner.learned) t)
        (λ i t at own. far_stays i (front_of q.known.learner.learned) own t (at own)) n w.group.size
        (λ i some low own. later_then n (told_all i j (some, low) own other mine (front_of q.known.learner.learned) n from)
        (λ t less at. now t (λ own. at)))

    by : Later n (λ t. (i : ℕ) → 0 < i → i ≤ w.group.size → IsTrue (members i) → IsTrue (members i) → FarAt i
        (front_of q.known.learner.learned) t)
        → Later (suc n) (λ t. (u : ℕ) → t ≤ u → AllHaveRead members w.group.size (keys_in_order (front_values q.known.learner.learned))
        (run.world u))
    by (t, less, far) = (suc t, omega (arith, less), at) where
      at : (u : ℕ) → suc t ≤ u → AllHaveRead members w.group.size (keys_in_order (front_values q.known.learner.learned)) (run.world u)
      at zero later = absurd (omega (arith, later))
      at (suc u) later = λ i node own.
          let here = from_then (FarAt i (front_of q.known.learner.learned)) (far_stays i (front_of q.known.learner.learned) own) t u
          (omega (arith, later)) (far i node.0 node.1 own own) in
          let there = from_then (λ t. AtWith (IsMore q.known.learner) (run.world (suc t)) j)
          (stays laws tests few run good most led (IsMore q.known.learner) (more_steady q.known.learner) j mine) n u (omega (
            arith,
            less,
            later,
          )) more in
          record {
            node = here.node;
            running = here.is_up.running;
            up = record { there = here.there; up = here.is_up.up };
            read = λ key among. read_later reads keys (good_at laws run good (suc u)) q.known.learner (has_of there) there.is_up.holds
                (has_of here) here.is_up.holds key among;
          }
