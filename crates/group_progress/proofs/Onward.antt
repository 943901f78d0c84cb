-- A node of the majority stays up in a run under a leading node, and its machine only goes on.
use Rattle.std.proofs.Common.{◌≡◌, ◌≢◌, ◌∙◌, ◌⊎◌, inl, inr, ℕ, zero, suc, ◌+◌, ◌≤◌, ◌==◌, nat_lt, Bool, IsTrue, List, [], ◌∷◌, length, Option, Some, None, refl, sym, ap, subst, arith}
use Rattle.std.proofs.lemmas.Bool.{cases_eq, cond_both}
use Rattle.paxos_msg.specs.declared.ballot.Ballot.{Ballot}
use Rattle.paxos_msg.specs.declared.limits.TheConstants.{LAST_ROUND, LAST_SERIAL, PLACES}
use Rattle.paxos_msg.specs.declared.value.Value.{Value}
use Rattle.paxos_msg.specs.Batches.{Body, Sent}
use Rattle.paxos_acceptor.specs.declared.me.Me.{Me}
use Rattle.paxos_learner.specs.Learner.{HasLearnedMore}
use Rattle.group_protocol.specs.declared.limits.TheConstants.{MOST_WAITING}
use Rattle.group_protocol.specs.Known.{Known, Response, front, new_key, next_serial, on_typed}
use Rattle.group_protocol.specs.Protocol.{on_message}
use Rattle.group_protocol.specs.ProposerResponses.{last_round, on_campaign}
use Rattle.group_protocol.specs.Tick.{on_tick}
use Rattle.group_node.specs.Deeds as deed
use Rattle.group_node.specs.Deeds.{Deed}
use Rattle.group_node.specs.NodeCalls.{Makes, NodeCall, Refuses, Running}
use Rattle.group_node.specs.Output.{Progress}
use Rattle.group_world.specs.declared.event.Act.{Act}
use Rattle.group_world.specs.declared.event.Act.TheVariants as act
use Rattle.group_world.specs.declared.event.Outcome.TheVariants.{Kept}
use Rattle.group_world.specs.declared.event.Event.{Event}
use Rattle.group_world.specs.Deeds.{DoesDeed, EndsCall, Left}
use Rattle.group_world.specs.Event.{DoesAt, IsDeedOf, node_of, plan_of}
use Rattle.group_world.specs.Group.{IsUp, me_of, World, world_state}
use Rattle.group_world.specs.Member.{Member, member_after_release}
use Rattle.group_progress.specs.Fair.{Endless, IsCalmAct, IsLed}
use Rattle.group_world.proofs.WorldAsGroup.{changed_elsewhere, changed_here}
use Rattle.group_progress.specs.Below.{LearnLaws}
use Rattle.group_progress.proofs.Calm.{made_leaves}
use Rattle.group_progress.proofs.Stages.{Stays}

-- a node that is up goes on: it forgets nothing, and its machine is as far or further
pub record Onward (q r : Running) : Type 0 where
  pub program : r.progress.program ≡ q.progress.program
  pub steps : q.progress.steps ≤ r.progress.steps
  pub released : q.progress.released ≤ r.progress.released
  pub more : HasLearnedMore q.known.learner.learned r.known.learner.learned

-- to go on is an order
pub onward_itself : (q : Running) → Onward q q
onward_itself q = record { program = refl; steps = omega arith; released = omega arith; more = record { stays = λ s v e. e } }

-- from one to the next
pub onward_through : (q r u : Running) → Onward q r → Onward r u → Onward q u
onward_through q r u h g = record {
  program = g.program ∙ h.program;
  steps = omega (arith, h.steps, g.steps);
  released = omega (arith, h.released, g.released);
  more = record { stays = λ s v e. g.more.stays s v (h.more.stays s v e) };
}

-- the node is up, and has gone on
pub record UpOnward (q : Running) (m : Member) : Type 0 where
  pub running : Running
  pub up : m.node ≡ Some running
  pub on : Onward q running

-- any deed but a crash
abbrev pub IsNoCrash : Deed → Type 0
IsNoCrash deed.Crash = ⊥
IsNoCrash _ = Unit {0}

module _ (learn : LearnLaws) where
  -- the node stays as it is
  same_up : {m : Member} (q : Running) → m.node ≡ Some q → UpOnward q m
  same_up q up = record { running = q; up = up; on = onward_itself q }

  -- a call that is made
  called_on : {me : Me} (m : Member) (q : Running) (done : Response) (keys : List Value) (left : Left)
      → EndsCall me m q.progress None (Makes done keys) left
      → HasLearnedMore q.known.learner.learned done.node.learner.learned → UpOnward q left.member
  called_on m q done keys left ends more =
      subst (UpOnward q) (sym (made_leaves m q.progress done keys left ends)) (record {
        running = record { known = done.node; progress = q.progress };
        up = refl;
        on = record { program = refl; steps = omega arith; released = omega arith; more = more };
      })

  -- how a call leaves it
  abbrev Ends : Me → Member → Running → Left → NodeCall → Type 0
  Ends me m q left call = EndsCall me m q.progress None call left → UpOnward q left.member

  -- a call that is refused
  refused_on : {me : Me} (m : Member) (q : Running) (left : Left) → m.node ≡ Some q → (f : _) → Ends me m q left (Refuses f)
  refused_on m q left up f ends = subst (UpOnward q) (sym ends.left) (same_up q up)

  -- a release
  released_on : (m : Member) (q : Running) (o : Option ℕ) → m.node ≡ Some q → UpOnward q (member_after_release m q o)
  released_on m q None up = same_up q up
  released_on m q (Some byte) up = record {
    running = _;
    up = refl;
    on = record { program = refl; steps = omega arith; released = omega arith; more = record { stays = λ s v e. e } };
  }

  -- each deed but a crash, one kind after another
  own_deed : (w : World) (i : ℕ) (m : Member) (d : Deed) (left : Left) (q : Running) → IsNoCrash d → m.node ≡ Some q
      → DoesDeed w.program (me_of w i) m None d left → (r : Running) × (m.node ≡ Some r) × UpOnward r left.member
  own_deed w i m deed.Idle left q alive up does = (q, up, subst (λ (x : Left). UpOnward q x.member) (sym does) (same_up q up))
  own_deed w i m (deed.Start r) left q alive up (down, is, ends) = absurd (cc (sym up ∙ down))
  own_deed w i m (deed.Hear message) left q alive up (r, is, ends) = (
    r,
    is,
    called_on m r (on_message r.known message.sender message.body) _ left ends
        (learn.message r.known message.sender message.body),
  )
  own_deed w i m (deed.Press byte) left q alive up (r, is, few, ends) = (
    r,
    is,
    cond_both (length r.known.waiting == MOST_WAITING) _ _ (Ends (me_of w i) m r left) (λ e. refused_on m r left is _)
        (λ e. cond_both (next_serial r.known == LAST_SERIAL + 1) _ _ (Ends (me_of w i) m r left) (λ e. refused_on m r left is _)
        (λ e ends. called_on m r (on_typed r.known byte) (new_key r.known byte ∷ []) left ends (record { stays = λ s v e. e }))) ends,
  )
  own_deed w i m deed.Campaign left q alive up (r, is, ends) = (
    r,
    is,
    cond_both (nat_lt (last_round r.known) LAST_ROUND) _ _ (Ends (me_of w i) m r left)
        (λ e. cond_both (front r.known == PLACES) _ _ (Ends (me_of w i) m r left) (λ e. refused_on m r left is _)
        (λ e ends. called_on m r (on_campaign r.known) [] left ends (learn.campaign r.known))) (λ e. refused_on m r left is _) ends,
  )
  own_deed w i m deed.Tick left q alive up (r, is, ends) = (r, is, called_on m r (on_tick r.known) _ left ends (learn.tick r.known))
  own_deed w i m (deed.Run steps) left q alive up (r, is, runs, same) = (
    r,
    is,
    subst (UpOnward r) (sym runs.new_is) (record {
      running = _;
      up = refl;
      on = record {
        program = ap (λ (x : Progress). x.program) runs.runs.rest;
        steps = runs.runs.more;
        released = (let e : runs.progress.released ≡ r.progress.released = ap (λ (x : Progress). x.released) runs.runs.rest in omega
            (arith, e));
        more = record { stays = λ s v e. e };
      };
    }),
  )
  own_deed w i m deed.Release left q alive up (r, is, same) =
      (r, is, subst (λ (x : Left). UpOnward r x.member) (sym same) (released_on m r _ is))
  own_deed w i m deed.Crash left q alive up does = absurd alive

  -- each deed but a crash
  pub deed_on : (w : World) (i : ℕ) (m : Member) (d : Deed) (left : Left) (q : Running) → IsNoCrash d → m.node ≡ Some q
      → DoesDeed w.program (me_of w i) m None d left → UpOnward q left.member
  deed_on w i m d left q alive up does =
      let (r, is, on) = own_deed w i m d left q alive up does in
      let same : r ≡ q = cc (sym is ∙ up) in subst (λ (q : Running). UpOnward q left.member) same on

-- ---- runs

-- node `i` is up, and has gone on
pub record OnwardAt (q : Running) (v : World) (i : ℕ) : Type 0 where
  pub node : Member
  pub running : Running
  pub up : IsUp v i node running
  pub on : Onward q running

-- what is calm is no crash
no_crash : (b : Ballot) (sent : Sent) (a : Act) (d : Deed) → IsDeedOf sent a d → IsCalmAct b sent a → IsNoCrash d
no_crash b sent (act.Press i byte) d is calm = subst IsNoCrash (sym is) tt
no_crash b sent (act.Deliver k i) d (m, at, is) calm = subst IsNoCrash (sym is) tt
no_crash b sent (act.Campaign i) d is calm = absurd calm
no_crash b sent (act.Tick i) d is calm = subst IsNoCrash (sym is) tt
no_crash b sent (act.Run i steps) d is calm = subst IsNoCrash (sym is) tt
no_crash b sent (act.Release i) d is calm = subst IsNoCrash (sym is) tt
no_crash b sent (act.Crash i) d is calm = absurd calm
no_crash b sent (act.Start i) d (r, is) calm = subst IsNoCrash (sym is) tt

module _ (learn : LearnLaws) {members : ℕ → Bool} {leader : ℕ} {b : Ballot} {w : World} (run : Endless w)
    (led : IsLed members leader b run) where
  -- the program stays
  pub program_at : (n : ℕ) → (run.world n).program ≡ w.program
  program_at zero = ap (λ (v : World). v.program) run.begins
  program_at (suc n) = ap (λ (v : World). v.program) (run.goes n).does.leads ∙ program_at n

  -- an event of the majority is kept, and no crash
  alive_at : (n : ℕ) → IsTrue (members (node_of (run.event n).act)) → ((run.event n).save ≡ Kept) × IsNoCrash (run.goes n).deed
  alive_at zero own = (
    ap (λ (e : Event). e.save) led.campaigns,
    (let is : (run.goes 0).deed ≡ deed.Campaign =
        subst (λ (e : Event). IsDeedOf (world_state (run.world 0)).sent e.act (run.goes 0).deed) led.campaigns
        (run.goes 0).is_deed in subst IsNoCrash (sym is) tt),
  )
  alive_at (suc n) own = (
    (led.calm n).kept own,
    no_crash b (world_state (run.world (suc n))).sent (run.event (suc n)).act (run.goes (suc n)).deed (run.goes (suc n)).is_deed
        ((led.calm n).calm own),
  )

  -- what a node of the majority does at a moment
  pub does_at : (n i : ℕ) (a : Act) → IsTrue (members i) → node_of a ≡ i → (run.event n).act ≡ a
      → IsDeedOf (world_state (run.world n)).sent a (run.goes n).deed × DoesAt (run.world n) i None (run.goes n).deed (run.done n)
      (run.world (suc n))
  does_at n i a own is acts =
      let goes = run.goes n in
      let at : node_of (run.event n).act ≡ i = ap node_of acts ∙ is in
      let kept = (alive_at n (subst (λ j. IsTrue (members j)) (sym at) own)).0 in (
        subst (λ a. IsDeedOf (world_state (run.world n)).sent a goes.deed) acts goes.is_deed,
        subst (λ save. DoesAt (run.world n) i (plan_of save) goes.deed (run.done n) (run.world (suc n))) kept
            (subst (λ j. DoesAt (run.world n) j (plan_of (run.event n).save) goes.deed (run.done n) (run.world (suc n))) at goes.does),
      )

  module _ (i : ℕ) (own : IsTrue (members i)) where
    -- one event of the run
    step_on : (n : ℕ) {m : Member} {q : Running} → IsUp (run.world n) i m q → OnwardAt q (run.world (suc n)) i
    step_on n {m} {q} is_up = by (cases_eq i (node_of (run.event n).act)) where
      by : (i ≡ node_of (run.event n).act) ⊎ (i ≢ node_of (run.event n).act) → OnwardAt q (run.world (suc n)) i
      by (inr other) =
          let does = (run.goes n).does in record {
            node = m;
            running = q;
            up = record {
              there = rw does.leads (changed_elsewhere (run.world n).members
                  (node_of (run.event n).act) i does.node does.left.member does.there other) ∙ is_up.there;
              up = is_up.up;
            };
            on = onward_itself q;
          }
      by (inl same) =
          let (is_deed, does) = does_at n i (run.event n).act own (sym same) refl in
          let alive = (alive_at n (subst (λ j. IsTrue (members j)) same own)).1 in
          let is : m ≡ does.node = cc (sym is_up.there ∙ does.there) in
          let up : does.node.node ≡ Some q = ap (λ (m : Member). m.node) (sym is) ∙ is_up.up in
          let on = deed_on learn (run.world n) i does.node (run.goes n).deed does.left q alive up does.does in record {
            node = does.left.member;
            running = on.running;
            up = record { there = rw does.leads (changed_here (run.world n).members i does.node does.left.member does.there); up = on.up };
            on = on.on;
          }

    -- so a node of the majority only goes on
    pub onward_stays : (q : Running) → Stays (λ n. OnwardAt q (run.world n) i)
    onward_stays q n at =
        let next = step_on n at.up in record {
          node = next.node;
          running = next.running;
          up = next.up;
          on = onward_through q at.running next.running at.on next.on;
        }
