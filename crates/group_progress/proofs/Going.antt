-- Lists of events one after another, and what one event of a node leaves.
use Rattle.std.proofs.Common.{inl, inr, ◌≡◌, ◌≢◌, ℕ, ◌+◌, ◌<◌, Contains, ◌≤◌, Bool, IsTrue, All, List, [], ◌∷◌, ◌++◌, length, slice_get, Option, Some, None, refl, sym, subst, arith, false, true, nat_lt, ◌==◌, []}
use Rattle.std.proofs.lemmas.Bool.Decides.{nat_tests}
use Rattle.std.proofs.lemmas.List.Elements.{All-head, All-tail}
use Rattle.group_protocol.proofs.Elements.{in_cases}
use Rattle.std.proofs.lemmas.Option.{slice_get_within, get_or_from_slice_get}
use Rattle.paxos_msg.specs.declared.message.Group.{Group}
use Rattle.paxos_msg.specs.declared.limits.TheConstants.{LAST_ROUND, LAST_START, PLACES}
use Rattle.paxos_msg.specs.Batches.{Body, Change, Msg, Record}
use Rattle.paxos_msg.specs.Datagrams.{Fits}
use Rattle.paxos_acceptor.specs.declared.me.Me.{Me}
use Rattle.group_protocol.specs.Known.{Known, Response, front, on_start}
use Rattle.group_protocol.specs.ProposerResponses.{last_round, next_ballot, on_campaign}
use Rattle.group_protocol.specs.Protocol.{answer_to, on_message}
use Rattle.group_protocol.specs.Steps.{messages_handed_out}
use Rattle.group_protocol.specs.Ranges.{AllFit, IsFit, IsHeardFit, IsInRange, IsMember}
use Rattle.paxos_acceptor.specs.Records.{IsRecord}
use Rattle.group_protocol.specs.Packets.{Datagram, datagrams_of}
use Rattle.group_protocol.specs.Tick.{on_tick}
use Rattle.group_node.specs.Deeds as deed
use Rattle.group_node.specs.Deeds.{Deed}
use Rattle.group_node.specs.NodeCalls.{Makes, Running, call_of_campaign, call_of_start}
use Rattle.group_node.specs.Output.{Progress, no_progress}
use Rattle.group_world.specs.declared.event.Act.{Act}
use Rattle.group_world.specs.declared.event.Act.TheVariants as act
use Rattle.group_world.specs.declared.event.Done.{Done}
use Rattle.group_world.specs.declared.event.Done.TheVariants.{Applied}
use Rattle.group_world.specs.declared.event.Event.{Event}
use Rattle.group_world.specs.Deeds.{DoesDeed, EndsCall, Left}
use Rattle.group_world.specs.Event.{DoesAt, Goes, HearsOf, IsDeedOf, kept_event, node_of, world_after}
use Rattle.group_rules.specs.Invariants.{IsUpSound}
use Rattle.group_world.specs.Group.{IsUp, me_of, member_at, messages_in, up_of, World, world_state}
use Rattle.group_world.specs.Member.{Member, failing, member_after_call}
use Rattle.group_world.specs.Sound.{Holds, IsSound, IsSpelling}
use Rattle.group_progress.specs.GoingOn.{IsHelpful, IsOwnEvent, Reaches, ReachesWithin, messages_by, messages_heard, ticks_by, ticks_in}
use Rattle.group_progress.specs.Below.{EventLaws}
use Rattle.group_progress.proofs.Within
use Rattle.group_progress.proofs.TalliesStay.{HearsFrom, TalliesRight, tallies_stay}
use Rattle.group_progress.proofs.Unread.{AreUnread, unread_stays}
use Rattle.group_world.proofs.WorldAsGroup.{ReadLaw, changed_elsewhere, changed_here, is_node, running, sent_called}

-- ---- the laws of one event

-- ---- lists of events

module _ {members : ℕ → Bool} {n : ℕ} where
  -- its own events are all that it takes
  abbrev counted : {w : World} {P : World → Type 0} (first : Reaches members n w P)
      → ReachesWithin (length first.events + ticks_in first.events) (messages_heard first.events) members n w P
  counted first = record { reaches = first; few_ticks = omega arith; few_messages = omega arith; few = omega arith }

  -- nothing happens
  pub stay : {w : World} {P : World → Type 0} → P w → Reaches members n w P
  stay h = (Within.stay h).reaches

  -- one event
  pub once : {w v : World} {P : World → Type 0} (e : Event) (d : Done) → IsOwnEvent members n e → Goes w e d v → P v → Reaches members n w P
  once e d own goes h = (Within.once e d own goes h).reaches

  -- what goes on where the first events lead
  pub then_at : {w : World} {P Q : World → Type 0} (first : Reaches members n w P) → Reaches members n first.end Q → Reaches members n w Q
  then_at first rest = (Within.then_at (counted first) (counted rest)).reaches

  -- then something more
  pub then : {w : World} {P Q : World → Type 0} → Reaches members n w P → ((v : World) → P v → Reaches members n v Q) → Reaches members
      n w Q
  then first more = then_at first (more first.end first.holds)

-- ---- one event of a node

in_from_place : {X : Type 0} (xs : List X) (s : ℕ) (x : X) → slice_get xs s ≡ Some x → Contains xs x
in_from_place xs s x e = (s, slice_get_within xs s x e, get_or_from_slice_get xs s x x e)

pub heard_by : (group : Group) (sent : List Datagram) (act : Act) (deed : Deed) → IsDeedOf (messages_in group sent) act deed
    → HearsOf group sent deed
heard_by group sent act deed h = grind (arith, nat_tests, in_from_place)

-- a world of which all holds that always does, in which no first key that waits is read, and whose
-- tallies are right
pub record Good (w : World) : Type 0 where
  pub holds : Holds w
  pub unread : AreUnread w
  pub tallies : TalliesRight w

-- a node that is up, as the rules see it: what it has learned is chosen, and what it has released is
-- on its console
pub by_rules : {w : World} → Holds w → {i : ℕ} {m : Member} {q : Running} → IsUp w i m q
    → IsUpSound w.program w.group.size (world_state w).sent m.console (up_of q)
by_rules {w} holds {i} {m} {q} is_up = rw (is_up.there, is_up.up) at (holds.rules.sound.seats i).running

-- what a call of node `i` with this response leaves; `m` was the node before
pub record Did (w : World) (i : ℕ) (m : Member) (progress : Progress) (done : Response) (v : World) : Type 0 where
  pub good : Good v
  pub group : v.group ≡ w.group
  pub program : v.program ≡ w.program
  pub there : member_at v.members i ≡ Some (member_after_call done m.console progress)
  pub others : (j : ℕ) → j ≢ i → member_at v.members j ≡ member_at w.members j
  pub sent : (world_state v).sent ≡ (world_state w).sent ++ messages_handed_out i done.sends

-- what was sent has a spelling
pub fits_at : (group : Group) (sent : List Datagram) (message : Msg) → All (IsSpelling group) sent → Contains (messages_in group sent)
    message
    → Fits group message
fits_at group [] message all (k, below, at) = absurd (omega (arith, below))
fits_at group (x ∷ xs) message all among =
    let first = All-head (IsSpelling group) x xs all in
    elim (in_cases first.message (messages_in group xs) message (rw first.read at among)) [
      | inl e ↦ subst (Fits group) e first.spells.fits
      | inr rest ↦ fits_at group xs message (All-tail (IsSpelling group) x xs all) rest
    ]

pub few_by : (group : Group) (sent : List Datagram) (d : Deed) → All (IsSpelling group) sent → group.size ≤ 9 → HearsOf group sent d →
    HearsFrom d
few_by group sent deed.Idle all few h = tt
few_by group sent (deed.Start r) all few h = tt
few_by group sent (deed.Hear m) all few h = let fits = fits_at group sent m all h in omega (arith, few, fits.0.1)
few_by group sent (deed.Press byte) all few h = tt
few_by group sent deed.Campaign all few h = tt
few_by group sent deed.Tick all few h = tt
few_by group sent (deed.Run steps) all few h = tt
few_by group sent deed.Release all few h = tt
few_by group sent deed.Crash all few h = tt

-- a deed of a node keeps it so
pub deed_good : EventLaws → (w v : World) (i : ℕ) (plan : Option Bool) (d : Deed) (done : Done) → Good w → HearsOf w.group w.sent d
    → DoesAt w i plan d done v → Good v
deed_good laws w v i plan d done good heard does =
    let sound = good.holds.sound in
    record {
      holds = laws.holds w v i plan d done good.holds heard does;
      unread = unread_stays laws.unread w v i plan d done good.holds good.unread does;
      tallies = tallies_stay w v i plan d done good.tallies (few_by w.group w.sent d sound.spelled sound.size.few heard) does;
    }

-- tests of numbers
below_more : (a b : ℕ) → a < b → a + 1 < b + 1
below_more a b less = omega arith

pub lt_true : (a b : ℕ) → a < b → nat_lt a b ≡ true
lt_true a b less = grind (arith, nat_tests)

pub lt_apart : (a b : ℕ) → a < b → (a == b) ≡ false
lt_apart a b less = grind (arith, nat_tests)

-- a save that is not planned to fail is made
pub saved : (c : Option Change) → failing c None ≡ None
saved None = refl
saved (Some c) = refl

abbrev pub left_by : Me → Member → Progress → Response → Left
left_by me m progress done = record {
  answer = Applied;
  member = member_after_call done m.console progress;
  sent = datagrams_of me done.sends;
  typed = [];
}

pub ends : (me : Me) (m : Member) (progress : Progress) (done : Response) → EndsCall me m progress None (Makes done [])
    (left_by me m progress done)
ends me m progress done = let e = saved done.saves in record { answer = rw e refl; left = rw e refl; sends = rw e refl; types = rw e refl }

pub fits_me : {w : World} {i : ℕ} {m : Member} {q : Running} → IsSound w → IsUp w i m q → {done : Response} → IsFit q.known.me done
    → AllFit (me_of w i) done.sends
fits_me sound is_up {done} fit = subst (λ me. AllFit me done.sends) (running sound is_up).me_is fit.sends

module _ (laws : EventLaws) {members : ℕ → Bool} {n : ℕ} {w : World} (good : Good w) (i : ℕ) {m : Member}
    (there : member_at w.members i ≡ Some m)
    (own : IsTrue (members i)) where
  can_call : {P : World → Type 0} (progress : Progress) (done : Response) (a : Act) (d : Deed) → node_of a ≡ i → IsHelpful n a
      → IsDeedOf (messages_in w.group w.sent) a d
      → DoesDeed w.program (me_of w i) m None d (left_by (me_of w i) m progress done)
      → AllFit (me_of w i) done.sends
      → ((v : World) → Did w i m progress done v → P v) → ReachesWithin (ticks_by a) (messages_by a) members n w P
  can_call {P} progress done a d at helpful is_deed does fits go_on =
      let left = left_by (me_of w i) m progress done in
      let v : World = world_after w i left in
      let does_at : DoesAt w i None d Applied v = record {
        node = m;
        there = there;
        left = left;
        does = does;
        answers = refl;
        leads =
            refl;
      } in
      let goes : Goes w (kept_event a) Applied v = record { deed = d; is_deed = is_deed; does = rw at does_at } in
      let is_heard = heard_by w.group w.sent a d is_deed in
      Within.once (kept_event a) Applied (record { of_member = rw at own; kept = refl; helpful = helpful }) goes
      (go_on v (record {
        good = deed_good laws w v i None d Applied good is_heard does_at;
        group = refl;
        program = refl;
        there = changed_here w.members i m left.member there;
        others = λ j other. changed_elsewhere w.members i j m left.member there other;
        sent = sent_called laws.read w i done.sends good.holds.sound.session (is_node i good.holds.sound there) fits;
      }))

  -- a start of a node that is down
  pub can_start : {P : World → Type 0} → m.node ≡ None → m.kept.starts < LAST_START
      → ((v : World) → Did w i m (no_progress w.program) (on_start (me_of w i) m.kept) v → P v) → ReachesWithin 1 0 members n w P
  can_start {P} down less go_on =
      let me = me_of w i in
      let spare = lt_apart m.kept.starts LAST_START less in
      let call : call_of_start me m.kept ≡ Makes (on_start me m.kept) [] = rw spare refl in
      let is_member : IsMember me = record { node = is_node i good.holds.sound there; few = good.holds.sound.size.few } in
      let fit = laws.fits_start me m.kept is_member (good.holds.sound.members i m there).ranges less in
      can_call (no_progress w.program) (on_start me m.kept) (act.Start i) (deed.Start m.kept) refl tt (m.kept, refl)
      (down, refl, rw call (ends me m (no_progress w.program) (on_start me m.kept))) fit.sends go_on

  module _ {q : Running} (up : m.node ≡ Some q) where
    -- a tick
    pub can_tick : {P : World → Type 0} → ((v : World) → Did w i m q.progress (on_tick q.known) v → P v) → ReachesWithin 1 0 members n w P
    can_tick go_on =
        let is_up : IsUp w i m q = record { there = there; up = up } in
        let sound = running good.holds.sound is_up in
        can_call q.progress (on_tick q.known) (act.Tick i) deed.Tick refl tt refl (q, up, ends (me_of w i) m q.progress (on_tick q.known))
        (fits_me good.holds.sound is_up (laws.fits_tick q.known sound.ranges)) go_on

    -- a campaign
    pub can_campaign : {P : World → Type 0} → last_round q.known < LAST_ROUND → front q.known < PLACES
        → ((v : World) → Did w i m q.progress (on_campaign q.known) v → P v) → ReachesWithin 1 0 members n w P
    can_campaign round place go_on =
        let is_up : IsUp w i m q = record { there = there; up = up } in
        let sound = running good.holds.sound is_up in
        let spare = lt_true (last_round q.known) LAST_ROUND round in
        let left = lt_apart (front q.known) PLACES place in
        let call : call_of_campaign q.known ≡ Makes (on_campaign q.known) [] = rw (spare, left) refl in
        can_call q.progress (on_campaign q.known) (act.Campaign i) deed.Campaign refl tt refl
        (q, up, rw call (ends (me_of w i) m q.progress (on_campaign q.known)))
        (fits_me good.holds.sound is_up (laws.fits_campaign q.known sound.ranges (below_more (last_round q.known) LAST_ROUND round)
        place)) go_on

    -- the hearing of a message that was sent
    pub can_hear : {P : World → Type 0} (k : ℕ) (message : Msg) → n ≤ k → slice_get (world_state w).sent k ≡ Some message
        → ((v : World) → Did w i m q.progress (answer_to message q.known) v → P v) → ReachesWithin 0 1 members n w P
    can_hear k message new at go_on =
        let is_up : IsUp w i m q = record { there = there; up = up } in
        let sound = running good.holds.sound is_up in
        let fits : IsHeardFit q.known.me message.sender message.body = subst (λ (me : Me). Fits me.group message) (sym sound.me_is)
        (fits_at w.group w.sent message good.holds.sound.spelled (in_from_place _ k message at)) in
        can_call q.progress (answer_to message q.known) (act.Deliver k i) (deed.Hear message) refl new (message, at, refl)
        (q, up, ends (me_of w i) m q.progress (answer_to message q.known))
        (fits_me good.holds.sound is_up (laws.fits_message q.known message.sender message.body sound.ranges fits)) go_on
