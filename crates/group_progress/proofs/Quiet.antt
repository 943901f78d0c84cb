-- Runs in which some nodes stay in a state of one kind: which event comes next, and what it leaves.
use Rattle.std.proofs.Common.{IsTrue, append-nil, ◌≡◌, ◌≢◌, ◌∙◌, inl, inr, ℕ, zero, suc, ◌+◌, ◌*◌, ◌/◌, ◌%◌, ◌<◌, nat_lt, nat_le, Bool, Contains, List, [], ◌∷◌, ◌++◌, slice_get, Some, None, if◌then◌else◌, refl, sym, ap, subst, arith, true, false, ◌&&◌, Option}
use Rattle.std.proofs.lemmas.Bool.{and_from, cases_eq, cond_both, cond-true, le-leb, lt-ltb, ltb-true, leb-true}
use Rattle.std.proofs.lemmas.List.Elements.{Contains-append_cases}
use Rattle.paxos_msg.specs.declared.message.Group.{Group}
use Rattle.paxos_msg.specs.Batches.{Body, Msg, Sent}
use Rattle.paxos_msg.specs.Fits.{IsNode}
use Rattle.group_protocol.proofs.Elements.{first_in, in_cases, none_in, rest_in}
use Rattle.group_protocol.specs.Known.{Known, Response}
use Rattle.group_protocol.specs.Packets.{Packet}
use Rattle.group_protocol.specs.Protocol.{answer_to}
use Rattle.group_protocol.specs.Ranges.{AllFit, IsHeardFit}
use Rattle.group_protocol.specs.Steps.{messages_handed_out}
use Rattle.group_protocol.specs.Tick.{on_tick}
use Rattle.group_node.specs.Deeds as deed
use Rattle.group_node.specs.Deeds.{Deed}
use Rattle.group_node.specs.NodeCalls.{Running, unreleased_by}
use Rattle.group_world.specs.declared.event.Act.{Act}
use Rattle.group_world.specs.declared.event.Act.TheVariants as act
use Rattle.group_world.specs.declared.event.Done.TheVariants.{Applied}
use Rattle.group_world.specs.Deeds.{DoesDeed, Left, quietly}
use Rattle.group_world.specs.Event.{DoesAt, Goes, IsDeedOf, kept_event, node_of, world_after}
use Rattle.group_world.specs.Group.{IsUp, me_of, member_at, messages_in, World, world_state}
use Rattle.group_world.specs.Member.{Member, member_after_release}
use Rattle.group_world.proofs.WorldAsGroup.{changed_elsewhere, changed_here, running, sent_called}
use Rattle.group_progress.specs.Below.{EventLaws}
use Rattle.group_progress.proofs.Calm.{UpWith}
use Rattle.group_progress.proofs.Going.{Good, ends, fits_at, fits_me, left_by}
use Rattle.group_rules.proofs.Lists.{in_from_place}
use Rattle.group_progress.proofs.Runs.{AtWith}
use Rattle.group_progress.proofs.Starting.{happens_good}
use Rattle.group_progress.proofs.Sweeps.{message_part, node_part}

-- ---- which event comes next

-- the node of a number, or node 1
pick_node : ℕ → ℕ → ℕ
pick_node size r = if nat_lt 0 r && nat_le r size then r else 1

-- how a run goes on: which bodies are heard, which node takes the place of each, and what a node does where no message
-- is meant
pub record Choice : Type 0 where
  pub hears : Body → Bool
  pub node : ℕ → ℕ
  pub idle : ℕ → Act

-- the test that a message is there, and is heard
abbrev pub may_hear : (Body → Bool) → Option Msg → Bool
may_hear hears None = false
may_hear hears (Some m) = hears m.body

-- the act for a message and a node
pick_by : Choice → Sent → ℕ → ℕ → Act
pick_by choice sent zero i = choice.idle i
pick_by choice sent (suc k) i = if may_hear choice.hears (slice_get sent k) then act.Deliver k i else choice.idle i

-- in a group of this size, where these messages were sent
pub pick : Choice → ℕ → Sent → ℕ → Act
pick choice size sent c = pick_by choice sent (c / 10) (choice.node (pick_node size (c % 10)))

-- it is a node of the group
node_picked : (size r : ℕ) → 0 < size → IsNode size (pick_node size r)
unfolding pick_node
node_picked size r some =
    cond_both (nat_lt 0 r && nat_le r size) r 1 (λ i. IsNode size i) (λ e. (ltb-true 0 r (first_of _ _ e), leb-true r size (last_of _ _ e)))
    (λ e. (omega arith, omega (arith, some))) where
      first_of : (x y : Bool) → (x && y) ≡ true → x ≡ true
      first_of true y e = refl
      first_of false y e = absurd cc

      last_of : (x y : Bool) → (x && y) ≡ true → y ≡ true
      last_of true y e = e
      last_of false y e = absurd cc

-- and the one that is meant, if that is one
own_picked : (size i : ℕ) → IsNode size i → pick_node size i ≡ i
unfolding pick_node
own_picked size i node = cond-true (nat_lt 0 i && nat_le i size) i 1 (and_from _ _ (lt-ltb 0 i node.0) (le-leb i size node.1))

-- what each node does, and the delivery of each message to each node, have a number
pub idles_by : (choice : Choice) (size : ℕ) (sent : Sent) (i : ℕ) → IsNode size i → choice.node i ≡ i → i < 10
    → pick choice size sent (0 * 10 + i) ≡ choice.idle i
unfolding pick pick_by
idles_by choice size sent i node own few =
    let node_is = ap choice.node (ap (pick_node size) (node_part 0 i few) ∙ own_picked size i node) ∙ own in
    let first = message_part 0 i few in
    rw (first, node_is) refl

-- the same of deliveries
pub delivers_by : (choice : Choice) (size : ℕ) (sent : Sent) (k i : ℕ) → IsNode size i → choice.node i ≡ i → i < 10
    → may_hear choice.hears (slice_get sent k) ≡ true → pick choice size sent (suc k * 10 + i) ≡ act.Deliver k i
unfolding pick pick_by
delivers_by choice size sent k i node own few may =
    let node_is = ap choice.node (ap (pick_node size) (node_part (suc k) i few) ∙ own_picked size i node) ∙ own in
    let first = message_part (suc k) i few in
    rw (first, node_is) (cond-true (may_hear choice.hears (slice_get sent k)) (act.Deliver k i) (choice.idle i) may)

-- ---- worlds of quiet nodes

-- all nodes
abbrev pub everyone : ℕ → Bool
everyone i = true

-- this holds of each node of some, and that of all that was said
pub record Quiet (K : Known → Type 0) (B : Body → Type 0) (M : ℕ → Bool) (g : Group) (v : World) : Type 0 where
  pub good : Good v
  pub group : v.group ≡ g
  pub nodes : (i : ℕ) → IsNode g.size i → IsTrue (M i) → AtWith K v i
  pub said : (m : Msg) → Contains (world_state v).sent m → B m.body

-- it holds of messages if it does of packets
of_messages : (B : Body → Type 0) (i : ℕ) (packets : List Packet) → ((x : Packet) → Contains packets x → B x.body) → (m : Msg)
    → Contains (messages_handed_out i packets) m
    → B m.body
of_messages B i [] silent m among = absurd (none_in m among)
of_messages B i (x ∷ xs) silent m among = elim (in_cases (record { sender = i; body = x.body }) (messages_handed_out i xs) m among) [
  | inl same ↦ subst (λ (y : Msg). B y.body) same (silent x (first_in x xs))
  | inr rest ↦ of_messages B i xs (λ packet in_rest. silent packet (rest_in x xs packet in_rest)) m rest
]

-- one more event that is kept, after which all is quiet
pub record Next (K : Known → Type 0) (B : Body → Type 0) (M : ℕ → Bool) (g : Group) (v : World) (a : Act) : Type 0 where
  pub world : World
  pub goes : Goes v (kept_event a) Applied world
  pub quiet : Quiet K B M g world

module _ (K : Known → Type 0) (B : Body → Type 0) (M : ℕ → Bool) (laws : EventLaws) (g : Group) {v : World} (good : Good v)
    (group : v.group ≡ g)
    (said : (m : Msg) → Contains (world_state v).sent m → B m.body) (i : ℕ) (node : IsNode g.size i)
    {m : Member} {q : Running} (is_up : IsUp v i m q) (others : (j : ℕ) → IsNode g.size j → IsTrue (M j) → j ≢ i → AtWith K v j) where
  -- a call of one node, with what it leaves of the node and what it says
  pub calls_with : (done : Response) (a : Act) (d : Deed) → node_of a ≡ i → IsDeedOf (world_state v).sent a d
      → DoesDeed v.program (me_of v i) m None d (left_by (me_of v i) m q.progress done) → AllFit (me_of v i) done.sends
      → (IsTrue (M i) → K done.node) → ((x : Packet) → Contains done.sends x → B x.body)
      → (x : Next K B M g v a) × (member_at x.world.members i ≡ Some (left_by (me_of v i) m q.progress done).member)
      × ((world_state x.world).sent ≡ (world_state v).sent ++ messages_handed_out i done.sends)
  calls_with done a d at is_deed does fits silent sends =
      let left : Left = left_by (me_of v i) m q.progress done in
      let u : World = world_after v i (left_by (me_of v i) m q.progress done) in
      let does_at : DoesAt v i None d Applied (world_after v i (left_by (me_of v i) m q.progress done)) =
      record {
        node = m;
        there = is_up.there;
        left = left_by (me_of v i) m q.progress done;
        does = does;
        answers = refl;
        leads = refl;
      } in
      let goes : Goes v (kept_event a) Applied (world_after v i (left_by (me_of v i) m q.progress done)) =
      record { deed = d; is_deed = is_deed; does = rw at does_at } in
      let size : v.group.size ≡ g.size = ap (λ (x : Group). x.size) group in
      let sent : (world_state (world_after v i (left_by (me_of v i) m q.progress done))).sent ≡
      (world_state v).sent ++ messages_handed_out i done.sends =
      sent_called laws.read v i done.sends good.holds.sound.session (rw size node) fits in (
        record {
          world = world_after v i (left_by (me_of v i) m q.progress done);
          goes = goes;
          quiet = record {
            good = happens_good laws v (kept_event a ∷ []) _ good (_, Applied, goes, refl);
            group = group;
            nodes = λ j of mine. elim (cases_eq j i) [
              | inl same ↦ rw same (record {
                node = (left_by (me_of v i) m q.progress done).member;
                there = changed_here v.members i m (left_by (me_of v i) m q.progress done).member is_up.there;
                is_up = record { running = _; up = refl; holds = silent (subst (λ j. IsTrue (M j)) same mine) };
              })
              | inr other ↦
                  let old = others j of mine other in
                  record {
                    node = old.node;
                    there = changed_elsewhere v.members i j m
                        (left_by (me_of v i) m q.progress done).member is_up.there other ∙ old.there;
                    is_up = old.is_up;
                  }
            ];
            said = λ message among. elim (Contains-append_cases (world_state v).sent (messages_handed_out i done.sends) message
                (subst (λ (s : Sent). Contains s message) sent among)) [
                  | inl old ↦ said message old
                  | inr new ↦ of_messages B i done.sends sends message new
                ];
          };
        },
        changed_here v.members i m (left_by (me_of v i) m q.progress done).member is_up.there,
        sent,
      )

  -- a call of one node
  pub calls : (done : Response) (a : Act) (d : Deed) → node_of a ≡ i → IsDeedOf (world_state v).sent a d
      → DoesDeed v.program (me_of v i) m None d (left_by (me_of v i) m q.progress done) → AllFit (me_of v i) done.sends
      → (IsTrue (M i) → K done.node) → ((x : Packet) → Contains done.sends x → B x.body) → Next K B M g v a
  calls done a d at is_deed does fits silent sends = (calls_with done a d at is_deed does fits silent sends).0

module _ (K : Known → Type 0) (B : Body → Type 0) (M : ℕ → Bool) (laws : EventLaws) (g : Group) {v : World} (quiet : Quiet K B M g v) where
  -- a tick
  pub ticks_so : (i : ℕ) → IsNode g.size i → IsTrue (M i)
      → ((n : Known) → K n → K (on_tick n).node × ((x : Packet) → Contains (on_tick n).sends x → B x.body)) → Next K B M g v (act.Tick i)
  ticks_so i node own answers =
      let at = quiet.nodes i node own in
      let is_up : IsUp v i at.node at.is_up.running = record { there = at.there; up = at.is_up.up } in
      let fits = fits_me quiet.good.holds.sound is_up
      (laws.fits_tick at.is_up.running.known (running quiet.good.holds.sound is_up).ranges) in
      let answer = answers at.is_up.running.known at.is_up.holds in
      calls K B M laws g quiet.good quiet.group quiet.said i node is_up (λ j of mine other. quiet.nodes j of mine)
      (on_tick at.is_up.running.known) (act.Tick i) deed.Tick refl refl
      (at.is_up.running, at.is_up.up, ends (me_of v i) at.node at.is_up.running.progress (on_tick at.is_up.running.known)) fits
      (λ own. answer.0) answer.1

  -- a delivery
  pub hears_so : (k i : ℕ) (message : Msg) → IsNode g.size i → IsTrue (M i) → slice_get (world_state v).sent k ≡ Some message
      → ((n : Known) → K n → K (answer_to message n).node × ((x : Packet) → Contains (answer_to message n).sends x → B x.body))
      → Next K B M g v (act.Deliver k i)
  hears_so k i message node own there answers =
      let at = quiet.nodes i node own in
      let is_up : IsUp v i at.node at.is_up.running = record { there = at.there; up = at.is_up.up } in
      let sound = running quiet.good.holds.sound is_up in
      let among = in_from_place (world_state v).sent k message there in
      let heard : IsHeardFit at.is_up.running.known.me message.sender message.body =
      subst (λ me. IsHeardFit me message.sender message.body) (sym sound.me_is)
      (fits_at v.group v.sent message quiet.good.holds.sound.spelled among) in
      let fits = fits_me quiet.good.holds.sound is_up
      (laws.fits_message at.is_up.running.known message.sender message.body sound.ranges heard) in
      let answer = answers at.is_up.running.known at.is_up.holds in
      calls K B M laws g quiet.good quiet.group quiet.said i node is_up (λ j of mine other. quiet.nodes j of mine)
      (answer_to message at.is_up.running.known) (act.Deliver k i) (deed.Hear message) refl (message, there, refl)
      (at.is_up.running, at.is_up.up, ends (me_of v i) at.node at.is_up.running.progress (answer_to message at.is_up.running.known)) fits
      (λ own. answer.0) answer.1

  -- a release: the machine's progress is all that it may change
  pub releases_on : (i : ℕ) → IsNode g.size i → IsTrue (M i) → Next K B M g v (act.Release i)
  releases_on i node own =
      let at = quiet.nodes i node own in
      let q : Running = at.is_up.running in
      let new : Member = member_after_release at.node at.is_up.running (slice_get (unreleased_by at.is_up.running) 0) in
      let does_at : DoesAt v i None deed.Release Applied
      (world_after v i (quietly (member_after_release at.node at.is_up.running
      (slice_get (unreleased_by at.is_up.running) 0)))) = record {
        node = at.node;
        there = at.there;
        left = quietly (member_after_release at.node at.is_up.running (slice_get (unreleased_by at.is_up.running) 0));
        does = (at.is_up.running, at.is_up.up, refl);
        answers = refl;
        leads = refl;
      } in
      let goes : Goes v (kept_event (act.Release i)) Applied
      (world_after v i (quietly (member_after_release at.node at.is_up.running (slice_get (unreleased_by at.is_up.running) 0)))) =
      record { deed = deed.Release; is_deed = refl; does = does_at } in
      let sent : (world_state (world_after v i
      (quietly (member_after_release at.node at.is_up.running (slice_get (unreleased_by at.is_up.running) 0))))).sent ≡
      (world_state v).sent =
      ap (messages_in v.group) (append-nil v.sent) in
      record {
        world = world_after v i (quietly (member_after_release at.node at.is_up.running (slice_get (unreleased_by at.is_up.running) 0)));
        goes = goes;
        quiet = record {
          good = happens_good laws v (kept_event (act.Release i) ∷ []) _ quiet.good (_, Applied, goes, refl);
          group = quiet.group;
          nodes = λ j of mine. elim (cases_eq j i) [
            | inl same ↦ rw same (record {
              node = member_after_release at.node at.is_up.running (slice_get (unreleased_by at.is_up.running) 0);
              there = changed_here v.members i at.node
                  (member_after_release at.node at.is_up.running (slice_get (unreleased_by at.is_up.running) 0)) at.there;
              is_up = released at.node at.is_up.running (slice_get (unreleased_by at.is_up.running) 0) at.is_up.up at.is_up.holds;
            })
            | inr other ↦
                let old = quiet.nodes j of mine in
                record {
                  node = old.node;
                  there = changed_elsewhere v.members i j at.node
                      (member_after_release at.node at.is_up.running (slice_get (unreleased_by at.is_up.running) 0)) at.there other
                      ∙ old.there;
                  is_up = old.is_up;
                }
          ];
          said = λ message among. quiet.said message (subst (λ (s : Sent). Contains s message) sent among);
        };
      } where
        released : (m : Member) (q : Running) (o : Option ℕ) → m.node ≡ Some q → K q.known
            → UpWith K (member_after_release m q o)
        released m q None up h = record { running = q; up = up; holds = h }
        released m q (Some byte) up h = record { running = _; up = refl; holds = h }

  -- the act that comes next
  picks_by : (choice : Choice) → ((i : ℕ) → IsNode g.size i → IsTrue (M i) → Next K B M g v (choice.idle i))
      → ((k i : ℕ) (m : Msg) → IsNode g.size i → IsTrue (M i) → slice_get (world_state v).sent k ≡ Some m → choice.hears m.body ≡ true
      → Next K B M g v (act.Deliver k i))
      → (x i : ℕ) → IsNode g.size i → IsTrue (M i) → Next K B M g v (pick_by choice (world_state v).sent x i)
  unfolding pick_by
  picks_by choice idles hears zero i node own = idles i node own
  picks_by choice idles hears (suc k) i node own =
      cond_both (may_hear choice.hears (slice_get (world_state v).sent k)) (act.Deliver k i) (choice.idle i) (λ a. Next K B M g v a)
      (λ e. by (slice_get (world_state v).sent k) refl e) (λ e. idles i node own) where
        by : (o : Option Msg) → slice_get (world_state v).sent k ≡ o → may_hear choice.hears o ≡ true → Next K B M g v (act.Deliver k i)
        by None there may = absurd cc
        by (Some message) there may = hears k i message node own there may

  -- by its number
  pub picks : (choice : Choice) → ((i : ℕ) → IsNode g.size i → IsTrue (M i) → Next K B M g v (choice.idle i))
      → ((k i : ℕ) (m : Msg) → IsNode g.size i → IsTrue (M i) → slice_get (world_state v).sent k ≡ Some m → choice.hears m.body ≡ true
      → Next K B M g v (act.Deliver k i))
      → ((i : ℕ) → IsNode g.size i → IsNode g.size (choice.node i) × IsTrue (M (choice.node i))) → (c : ℕ) → 0 < g.size
      → Next K B M g v (pick choice g.size (world_state v).sent c)
  unfolding pick
  picks choice idles hears own c some =
      let node = own (pick_node g.size (c % 10)) (node_picked g.size (c % 10) some) in
      picks_by choice idles hears (c / 10) (choice.node (pick_node g.size (c % 10))) node.0 node.1

-- ---- acts that are allowed

module _ (P : Act → Type 0) (choice : Choice) (sent : Sent) (idle : (i : ℕ) → P (choice.idle i))
    (hears : (k i : ℕ) (m : Msg) → slice_get sent k ≡ Some m → P (act.Deliver k i)) where
  -- what holds of each of them holds of the act that comes next
  allowed_by : (x i : ℕ) → P (pick_by choice sent x i)
  unfolding pick_by
  allowed_by zero i = idle i
  allowed_by (suc k) i = cond_both (may_hear choice.hears (slice_get sent k)) (act.Deliver k i) (choice.idle i) P
      (λ e. by (slice_get sent k) refl e) (λ e. idle i) where
        by : (o : Option Msg) → slice_get sent k ≡ o → may_hear choice.hears o ≡ true → P (act.Deliver k i)
        by None there may = absurd cc
        by (Some message) there may = hears k i message there

  -- by its number
  pub allowed : (size c : ℕ) → P (pick choice size sent c)
  unfolding pick
  allowed size c = allowed_by (c / 10) (choice.node (pick_node size (c % 10)))
