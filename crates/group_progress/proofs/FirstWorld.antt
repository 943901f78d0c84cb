-- Worlds in which all nodes have started, and a key waits or none.
use Rattle.std.proofs.Common.{append-nil, if◌then◌else◌, ◌≡◌, ◌≢◌, ◌∙◌, ◌⊎◌, inl, inr, ℕ, zero, suc, ◌+◌, ◌<◌, ◌≤◌, IsTrue, Contains, List, [], ◌∷◌, ◌++◌, length, Some, None, refl, sym, ap, subst, arith}
use Rattle.std.proofs.lemmas.Bool.Decides.{nat_tests}
use Rattle.std.specs.FinMap.{get, get-empty}
use Rattle.std.specs.Ordering.{nat_cmp}
use Rattle.pcode_file.specs.Parts.{Parts}
use Rattle.paxos_msg.specs.Records.{empty_record}
use Rattle.paxos_msg.specs.declared.ballot.Ballot.{Ballot}
use Rattle.paxos_msg.specs.declared.limits.TheConstants.{LAST_SERIAL}
use Rattle.paxos_msg.specs.declared.message.Group.{Group}
use Rattle.paxos_msg.specs.Ballots.{count_of}
use Rattle.paxos_msg.specs.Batches.{Msg, Record, Sent}
use Rattle.paxos_msg.specs.Fits.{IsNode}
use Rattle.paxos_acceptor.specs.declared.me.Me.{Me}
use Rattle.group_protocol.proofs.Elements.{none_in, first_in}
use Rattle.group_protocol.specs.Known.{Known, on_start, new_key, next_serial, on_typed}
use Rattle.group_node.specs.Deeds as deed
use Rattle.group_node.specs.NodeCalls.{Running, call_of_press}
use Rattle.group_world.specs.declared.event.Act.TheVariants as act
use Rattle.group_world.specs.declared.event.Done.TheVariants.{Applied}
use Rattle.group_world.specs.declared.event.Event.{Event}
use Rattle.group_world.specs.Event.{Goes, LeadsBy, kept_event, DoesAt, world_after}
use Rattle.group_world.specs.Group.{IsUp, me_of, member_at, new_world, World, world_state, messages_in}
use Rattle.group_world.specs.Member.{Member, member_after_call}
use Rattle.group_progress.specs.GoingOn.{Reaches, keys_waiting, waiting_of}
use Rattle.group_world.proofs.WorldAsGroup.{first_node, stopped, changed_elsewhere, changed_here}
use Rattle.group_progress.specs.Below.{EventLaws}
use Rattle.group_progress.proofs.Chasing.{slice_some}
use Rattle.group_progress.proofs.Going.{Good, lt_apart}
use Rattle.group_progress.proofs.Within.{leads_then}
use Rattle.group_progress.proofs.Runs.{AtWith}
use Rattle.group_progress.proofs.Silent.{IsSilent}
use Rattle.group_progress.proofs.Steps.{each_in_turn, starts}
use Rattle.std.specs.List.{range_with_len}
use Rattle.std.proofs.lemmas.List.Elements.{Contains-append_right}
use Rattle.paxos_msg.specs.Keys.{Key, keys_of}
use Rattle.group_protocol.specs.declared.limits.TheConstants.{MOST_WAITING}
use Rattle.group_protocol.specs.WaitingKeys.{waiting_keys}
use Rattle.group_world.specs.Deeds.{EndsCall, Left}
use Rattle.group_rules.proofs.Lists.{in_flat_map, in_range}
use Rattle.group_progress.proofs.Starting.{happens_good}
use Rattle.std.proofs.lemmas.Bool.{cases_eq}
use Rattle.group_progress.proofs.Quiet.{everyone}

-- a node that has started and heard nothing; keys wait only if `W` holds
pub record IsFresh (W : Type 0) (n : Known) : Type 0 where
  pub votes : n.kept.votes ≡ []
  pub promised : n.kept.promised ≡ None
  pub remembered : n.remembered ≡ None
  pub learned : (s : ℕ) → get n.learner.learned s ≡ None
  pub proposer : n.proposer ≡ None
  pub waiting : W ⊎ (n.waiting ≡ [])
  pub first : n.first ≡ 1

-- such a node is silent
pub fresh_silent : (W : Type 0) (b : Ballot) (n : Known) → IsFresh W n → IsSilent W b n
fresh_silent W b n h = record {
  votes = h.votes;
  promised = rw h.promised tt;
  learned = h.learned;
  proposer = rw h.proposer tt;
  waiting = h.waiting;
}

-- and so is each that starts for the first time
fresh_start : (me : Me) (r : Record) → empty_record ≡ r → IsFresh ⊥ (on_start me r).node
fresh_start me r e = record {
  votes = ap (λ (r : Record). r.votes) (sym e);
  promised = ap (λ (r : Record). r.promised) (sym e);
  remembered = refl;
  learned = λ s. get-empty nat_cmp s;
  proposer = refl;
  waiting = inr refl;
  first = refl;
}

-- they are as many as there are
pub count_all : (n : ℕ) → count_of everyone n ≡ n
count_all zero = refl
count_all (suc n) = grind (arith, nat_tests, count_all n)

-- ---- all nodes start

module _ (laws : EventLaws) (p : Parts) (g : Group) (begins : Good (new_world p g)) where
  -- the nodes up to this one have started
  pub record Started (k : ℕ) (v : World) : Type 0 where
    pub good : Good v
    pub none : (m : Msg) → Contains (world_state v).sent m → ⊥
    pub ahead : (j : ℕ) → k < j → member_at v.members j ≡ member_at (new_world p g).members j

  -- the next node starts
  start_one : (k : ℕ) (v : World) → suc k ≤ g.size → IsTrue (everyone (suc k)) → Started k v
      → Reaches everyone 0 v (λ u. Started (suc k) u × AtWith (IsFresh ⊥) u (suc k) ×
      ((j : ℕ) → j ≢ suc k → AtWith (IsFresh ⊥) v j → AtWith (IsFresh ⊥) u j))
  start_one k v low own s =
      let (m, at) = slice_some (new_world p g).members k (omega (arith, low, begins.holds.sound.places)) in
      let there : member_at v.members (suc k) ≡ Some m = s.ahead (suc k) (omega arith) ∙ at in
      let is : stopped empty_record ≡ m = first_node p g (suc k) m at in
      let down : m.node ≡ None = ap (λ (m : Member). m.node) (sym is) in
      let kept : empty_record ≡ m.kept = ap (λ (m : Member). m.kept) is in
      let spare : m.kept.starts ≡ 0 = ap (λ (m : Member). m.kept.starts) (sym is) in
      (starts laws s.good (suc k) own there down (omega (arith, spare)) (λ u step. (
        record {
          good = step.good;
          none = λ message among. s.none message
              (subst (λ (sent : Sent). Contains sent message) (step.sent ∙ append-nil (world_state v).sent) among);
          ahead = λ j above. step.others j (λ same. omega (arith, above, same)) ∙ s.ahead j (omega (arith, above));
        },
        record {
          node = step.now.node;
          there = step.now.there;
          is_up = record { running = _; up = step.now.up; holds = fresh_start (me_of v (suc k)) m.kept kept };
        },
        λ j other at. record { node = at.node; there = step.others j other ∙ at.there; is_up = at.is_up },
      ))).reaches

  -- and so all do
  pub all_start : Reaches everyone 0 (new_world p g)
      (λ v. Started g.size v × ((i : ℕ) → 0 < i → i ≤ g.size → IsTrue (everyone i) → AtWith (IsFresh ⊥) v i))
  all_start = each_in_turn g.size Started (λ i v. AtWith (IsFresh ⊥) v i) (λ k v none s. absurd (none refl)) start_one g.size (omega arith)
      (new_world p g)
      (record { good = begins; none = λ message among. none_in message among; ahead = λ j above. refl })

-- the group stays
pub group_stays : (v : World) (events : List Event) (w : World) → LeadsBy v events w → w.group ≡ v.group
group_stays v [] w leads = ap (λ (x : World). x.group) leads
group_stays v (e ∷ events) w (mid, d, goes, rest) = group_stays mid events w rest ∙ ap (λ (x : World). x.group) goes.does.leads

-- ---- the worlds

-- a world that is reached, in which all nodes have started and nothing was said
pub record FirstWorld (W : Type 0) (p : Parts) (g : Group) : Type 0 where
  pub events : List Event
  pub world : World
  pub leads : LeadsBy (new_world p g) events world
  pub good : Good world
  pub none : (m : Msg) → Contains (world_state world).sent m → ⊥
  pub fresh : (i : ℕ) → IsNode world.group.size i → AtWith (IsFresh W) world i

-- in which no key waits
pub started : EventLaws → (p : Parts) (g : Group) → Good (new_world p g) → FirstWorld ⊥ p g
started laws p g begins =
    let all = all_start laws p g begins in
    let group = group_stays (new_world p g) all.events all.end all.leads in
    let size : all.end.group.size ≡ g.size = ap (λ (x : Group). x.size) group in
    record {
      events = all.events;
      world = all.end;
      leads = all.leads;
      good = all.holds.0.good;
      none = all.holds.0.none;
      fresh = λ i node. all.holds.1 i node.0 (omega (arith, node.1, size)) refl;
    }

-- in which this key waits
pub record TypedWorld (p : Parts) (g : Group) : Type 0 where
  pub first : FirstWorld (Unit {0}) p g
  pub key : Key
  pub at_first : Contains (waiting_of (member_at first.world.members 1)) key
  pub waits : Contains (keys_waiting everyone first.world) key

-- what a typed key leaves
abbrev pressed_left : Member → Running → ℕ → Left
pressed_left m q byte = record {
  answer = Applied;
  member = member_after_call (on_typed q.known byte) m.console q.progress;
  sent = [];
  typed = new_key q.known byte ∷ [];
}

-- the key
abbrev typed_key : Known → ℕ → Key
typed_key n byte = record { node = n.me.node; start = n.kept.starts; serial = next_serial n; byte = byte }

-- where there is a key to spare
press_ends : (me : Me) (m : Member) (q : Running) (byte : ℕ) → length q.known.waiting < MOST_WAITING → next_serial q.known < LAST_SERIAL + 1
    → EndsCall me m q.progress None (call_of_press q.known byte) (pressed_left m q byte)
press_ends me m q byte free serial =
    let few = lt_apart (length q.known.waiting) MOST_WAITING free in
    let spare = lt_apart (next_serial q.known) (LAST_SERIAL + 1) serial in
    rw (few, spare) (record { answer = refl; left = refl; sends = refl; types = refl })

-- a node at which nothing waits may have keys that wait
fresh_more : (n : Known) → IsFresh ⊥ n → IsFresh (Unit {0}) n
fresh_more n h = record {
  votes = h.votes;
  promised = h.promised;
  remembered = h.remembered;
  learned = h.learned;
  proposer = h.proposer;
  waiting = inl tt;
  first = h.first;
}

-- and so after a key is typed
typed_fresh : (n : Known) (byte : ℕ) → IsFresh ⊥ n → IsFresh (Unit {0}) (on_typed n byte).node
typed_fresh n byte h = record {
  votes = h.votes;
  promised = h.promised;
  remembered = h.remembered;
  learned = h.learned;
  proposer = h.proposer;
  waiting = inl tt;
  first = h.first;
}

-- one is typed at the first node
pub typed : EventLaws → (p : Parts) (g : Group) → Good (new_world p g) → TypedWorld p g
typed laws p g begins =
    let s = started laws p g begins in
    let node : IsNode s.world.group.size 1 = (omega arith, omega (arith, s.good.holds.sound.size.odd)) in
    let at = s.fresh 1 node in
    press s.events s.world s.leads s.good s.none s.fresh at.node at.is_up.running
    (record { there = at.there; up = at.is_up.up }) at.is_up.holds node where
      press : (events : List Event) (w : World) → LeadsBy (new_world p g) events w → Good w
          → ((m : Msg) → Contains (world_state w).sent m → ⊥)
          → ((i : ℕ) → IsNode w.group.size i → AtWith (IsFresh ⊥) w i) → (m : Member) (q : Running) → IsUp w 1 m q → IsFresh ⊥ q.known
          → IsNode w.group.size 1 → TypedWorld p g
      press events w leads good none fresh m q is_up h node =
          let free : q.known.waiting ≡ [] = elim h.waiting [ inl wrong ↦ absurd wrong | inr e ↦ e ] in
          let room : length q.known.waiting < MOST_WAITING = rw free (omega arith) in
          let serial : next_serial q.known < LAST_SERIAL + 1 = omega (arith, h.first, ap (λ (bytes : List ℕ). length bytes) free) in
          let does_at : DoesAt w 1 None (deed.Press 65) Applied (world_after w 1 (pressed_left m q 65)) = record {
            node = m;
            there = is_up.there;
            left = pressed_left m q 65;
            does = (q, is_up.up, omega arith, press_ends (me_of w 1) m q 65 room serial);
            answers = refl;
            leads = refl;
          } in
          let goes : Goes w (kept_event (act.Press 1 65)) Applied (world_after w 1 (pressed_left m q 65)) =
          record { deed = deed.Press 65; is_deed = refl; does = does_at } in
          let sent : (world_state (world_after w 1 (pressed_left m q 65))).sent ≡ (world_state w).sent =
          ap (messages_in w.group) (append-nil w.sent) in
          let there : member_at (world_after w 1 (pressed_left m q 65)).members 1 ≡ Some (pressed_left m q 65).member =
          changed_here w.members 1 m (pressed_left m q 65).member is_up.there in
          let among : Contains (waiting_keys (on_typed q.known 65).node) (typed_key q.known 65) =
          subst (λ ks. Contains ks (typed_key q.known 65)) (sym (laws.unread.typed q.known 65))
          (Contains-append_right (waiting_keys q.known) (keys_of (new_key q.known 65)) (typed_key q.known 65)
          (first_in (typed_key q.known 65) [])) in
          record {
            first = record {
              events = events ++ kept_event (act.Press 1 65) ∷ [];
              world = world_after w 1 (pressed_left m q 65);
              leads = leads_then (new_world p g) events (kept_event (act.Press 1 65) ∷ []) w (world_after w 1 (pressed_left m q 65)) leads
                  (world_after w 1 (pressed_left m q 65), Applied, goes, refl);
              good = happens_good laws w (kept_event (act.Press 1 65) ∷ []) (world_after w 1 (pressed_left m q 65)) good
                  (world_after w 1 (pressed_left m q 65), Applied, goes, refl);
              none = λ message said. none message (subst (λ (s : Sent). Contains s message) sent said);
              fresh = λ i of. elim (cases_eq i 1) [
                | inl same ↦ rw same (record {
                  node = (pressed_left m q 65).member;
                  there = there;
                  is_up = record { running = _; up = refl; holds = typed_fresh q.known 65 h };
                })
                | inr other ↦
                    let old = fresh i of in
                    record {
                      node = old.node;
                      there = changed_elsewhere w.members 1 i m (pressed_left m q 65).member is_up.there other ∙ old.there;
                      is_up = record {
                        running = old.is_up.running;
                        up = old.is_up.up;
                        holds = fresh_more old.is_up.running.known old.is_up.holds;
                      };
                    }
              ];
            };
            key = typed_key q.known 65;
            at_first = subst (λ o. Contains (waiting_of o) (typed_key q.known 65)) (sym there) among;
            waits = in_flat_map (λ i. if everyone i then waiting_of (member_at (world_after w 1 (pressed_left m q 65)).members i) else [])
                (range_with_len 1 w.group.size) 1 (typed_key q.known 65) (in_range 1 w.group.size 1 (omega arith) (omega (arith, node.1)))
                (subst (λ o. Contains (waiting_of o) (typed_key q.known 65)) (sym there) among);
          }
