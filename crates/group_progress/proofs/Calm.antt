-- What calm deeds leave of a node of the majority: it is up, and its promise stays.
use Rattle.std.proofs.Common.{◌≡◌, ◌≢◌, ◌∙◌, ℕ, List, [], ◌∷◌, Option, Some, None, IfSome, Bool, length, ◌+◌, ◌==◌, refl, sym, ap, subst, arith, false, true, if◌then◌else◌, ◌&&◌, not}
use Rattle.std.proofs.lemmas.Bool.{cond_both}
use Rattle.paxos_msg.specs.declared.ballot.Ballot.{Ballot}
use Rattle.paxos_msg.specs.declared.message.Body.TheVariants.{Prepare, Promise, Accept, Accepted, Refused, Submit, Ask, Tell}
use Rattle.paxos_msg.specs.declared.record.Change.TheVariants as change
use Rattle.paxos_msg.specs.declared.value.Value.{Value}
use Rattle.paxos_msg.specs.declared.limits.TheConstants.{LAST_SERIAL}
use Rattle.paxos_msg.specs.Ballots.{IsAtMost, IsBelow}
use Rattle.paxos_msg.specs.Batches.{Body, Record, Vote}
use Rattle.paxos_msg.specs.Tests.{ballot_lt, same_ballot}
use Rattle.paxos_acceptor.specs.Answers.{accepted, after, greater_promise, is_promised, prepared, value_under, voted}
use Rattle.paxos_acceptor.specs.declared.me.Me.{Me}
use Rattle.paxos_msg.specs.Messages.{kept_vote_at}
use Rattle.paxos_proposer.specs.Proposer.{Proposer, is_covered, next_of}
use Rattle.group_protocol.specs.declared.limits.TheConstants.{MOST_WAITING}
use Rattle.group_protocol.specs.Known.{Known, Response, new_key, next_serial, on_typed}
use Rattle.group_protocol.specs.Protocol.{on_message}
use Rattle.group_protocol.specs.ProposerResponses.{is_known, submitted, taking_part}
use Rattle.group_protocol.specs.Tick.{on_tick, ticked}
use Rattle.group_node.specs.Deeds as deed
use Rattle.group_node.specs.Deeds.{Deed}
use Rattle.group_node.specs.NodeCalls.{Makes, NodeCall, Refuses, Running}
use Rattle.group_node.specs.Output.{Progress}
use Rattle.group_world.specs.Deeds.{DoesDeed, EndsCall, Left}
use Rattle.group_world.specs.Group.{me_of, World}
use Rattle.group_world.specs.Member.{Member, member_after_call, member_after_release}
use Rattle.group_progress.specs.Below.{TestLaws}
use Rattle.group_progress.proofs.Going.{saved}

-- no Prepare, no Accept and no Accepted above the ballot
abbrev pub IsLowBody : Ballot → Body → Type 0
IsLowBody b (Prepare c from) = ¬ IsBelow b c
IsLowBody b (Accept c s v) = ¬ IsBelow b c
IsLowBody b (Accepted c s v) = ¬ IsBelow b c
IsLowBody b _ = Unit {0}

-- and no Refused of the ballot
abbrev pub IsCalmBody : Ballot → Body → Type 0
IsCalmBody b body = IsLowBody b body × ((c promised : Ballot) → body ≡ Refused c promised → c ≢ b)

abbrev pub IsCalmDeed : Ballot → Deed → Type 0
IsCalmDeed b (deed.Hear m) = IsCalmBody b m.body
IsCalmDeed b deed.Campaign = ⊥
IsCalmDeed b deed.Crash = ⊥
IsCalmDeed b _ = Unit {0}

-- a fact about promises that stays under what is not above the ballot
abbrev pub IsKept : Ballot → (Option Ballot → Type 0) → Type 0
IsKept b P = (o : Option Ballot) (c : Ballot) → ¬ IsBelow b c → greater_promise o c ≡ None → P o → P (Some c)

-- a node that is up, with this of what it knows
pub record UpWith (K : Known → Type 0) (m : Member) : Type 0 where
  pub running : Running
  pub up : m.node ≡ Some running
  pub holds : K running.known

-- a fact of what a node knows that stays through calm calls
pub record IsSteady (b : Ballot) (K : Known → Type 0) : Type 0 where
  pub message : (n : Known) (j : ℕ) (body : Body) → IsCalmBody b body → K n → K (on_message n j body).node
  pub tick : (n : Known) → K n → K (on_tick n).node
  pub typed : (n : Known) (byte : ℕ) → K n → K (on_typed n byte).node

abbrev pub OfPromise : (Option Ballot → Type 0) → Known → Type 0
OfPromise P n = P n.kept.promised

module _ {b : Ballot} (P : Option Ballot → Type 0) (keeps : IsKept b P) where
  prepare_keeps : (o : Option Ballot) (r : Record) (c : Ballot) (from : ℕ) → ¬ IsBelow b c → greater_promise r.promised c ≡ o → P r.promised
      → P (after r (prepared o r c from).saves).promised
  prepare_keeps (Some p) r c from low e h = h
  prepare_keeps None r c from low e h =
      cond_both (is_promised r.promised c) None (Some (change.Promise c)) (λ x. P (after r x).promised) (λ t. h)
      (λ t. keeps r.promised c low e h)

  vote_keeps : (o : Option Value) (r : Record) (c : Ballot) (s : ℕ) (v : Value) → ¬ IsBelow b c → greater_promise r.promised c ≡ None →
      P r.promised
      → P (after r (voted o c s v).saves).promised
  vote_keeps (Some w) r c s v low e h = h
  vote_keeps None r c s v low e h = keeps r.promised c low e h

  accept_keeps : (o : Option Ballot) (r : Record) (c : Ballot) (s : ℕ) (v : Value) → ¬ IsBelow b c → greater_promise r.promised c ≡ o →
      P r.promised
      → P (after r (accepted o r c s v).saves).promised
  accept_keeps (Some p) r c s v low e h = h
  accept_keeps None r c s v low e h = vote_keeps (value_under (kept_vote_at r.votes s) c) r c s v low e h

  module _ (n : Known) (h : P n.kept.promised) where
    part_keeps : (o : Option Proposer) (j : ℕ) (c : Ballot) (first upto : ℕ) (votes : List Vote)
        → P (taking_part n o j c first upto votes).node.kept.promised
    part_keeps None j c first upto votes = h
    part_keeps (Some p) j c first upto votes =
        cond_both (same_ballot p.ballot c) _ _ (λ (x : Response). P x.node.kept.promised) (λ e. h) (λ e. h)

    submit_keeps : (o : Option Proposer) (v : Value) → P (submitted n o v).node.kept.promised
    submit_keeps None v = h
    submit_keeps (Some p) v =
        cond_both (is_covered p (next_of p) && not (is_known n v)) _ _ (λ (x : Response). P x.node.kept.promised) (λ e. h) (λ e. h)

    tick_keeps : (o : Option Proposer) → P (ticked n o).node.kept.promised
    tick_keeps None = h
    tick_keeps (Some p) = h

    pub message_keeps : (j : ℕ) (body : Body) → IsLowBody b body → P (on_message n j body).node.kept.promised
    message_keeps j (Prepare c from) low = prepare_keeps (greater_promise n.kept.promised c) n.kept c from low refl h
    message_keeps j (Promise c first upto votes) low = part_keeps n.proposer j c first upto votes
    message_keeps j (Accept c s v) low = accept_keeps (greater_promise n.kept.promised c) n.kept c s v low refl h
    message_keeps j (Accepted c s v) low = h
    message_keeps j (Refused c promised) low = h
    message_keeps j (Submit v) low = submit_keeps n.proposer v
    message_keeps j (Ask from) low = h
    message_keeps j (Tell s v) low = h

  pub promise_steady : IsSteady b (OfPromise P)
  promise_steady = record {
    message = λ n j body calm h. message_keeps n h j body calm.0;
    tick = λ n h. tick_keeps n h n.proposer;
    typed = λ n byte h. h;
  }

-- a call that is made
pub made_leaves : {me : Me} (m : Member) (progress : Progress) (done : Response) (keys : List Value) (left : Left)
    → EndsCall me m progress None (Makes done keys) left → left.member ≡ member_after_call done m.console progress
made_leaves m progress done keys left ends = let e = saved done.saves in ends.left ∙ rw e refl

module _ {b : Ballot} (K : Known → Type 0) (steady : IsSteady b K) where
  up_after : {me : Me} (m : Member) (progress : Progress) (done : Response) (keys : List Value) (left : Left)
      → EndsCall me m progress None (Makes done keys) left → K done.node → UpWith K left.member
  up_after m progress done keys left ends h =
      subst (UpWith K) (sym (made_leaves m progress done keys left ends)) (record { running = _; up = refl; holds = h })

  abbrev Ends : Me → Member → Progress → Left → NodeCall → Type 0
  Ends me m progress left call = EndsCall me m progress None call left → UpWith K left.member

  up_one : (m : Member) (q : Running) → m.node ≡ Some q → UpWith K m → K q.known
  up_one m q up h = let same : h.running ≡ q = cc (sym h.up ∙ up) in subst (λ (q : Running). K q.known) same h.holds

  release_keeps : (m : Member) (q : Running) (o : Option ℕ) → UpWith K m → K q.known → UpWith K (member_after_release m q o)
  release_keeps m q None h g = h
  release_keeps m q (Some byte) h g = record { running = _; up = refl; holds = g }

  pub deed_keeps : (w : World) (i : ℕ) (m : Member) (d : Deed) (left : Left) → IsCalmDeed b d → UpWith K m
      → DoesDeed w.program (me_of w i) m None d left → UpWith K left.member
  deed_keeps w i m deed.Idle left calm h does = subst (λ (x : Left). UpWith K x.member) (sym does) h
  deed_keeps w i m (deed.Start r) left calm h (down, is, ends) = absurd (cc (sym h.up ∙ down))
  deed_keeps w i m (deed.Hear message) left calm h (q, up, ends) =
      up_after m q.progress (on_message q.known message.sender message.body) _ left ends
      (steady.message q.known message.sender message.body calm (up_one m q up h))
  deed_keeps w i m (deed.Press byte) left calm h (q, up, few, ends) =
      let g = up_one m q up h in
      let refused : (f : _) → Ends (me_of w i) m q.progress left (Refuses f) = λ f
      (ends : EndsCall (me_of w i) m q.progress None (Refuses f) left). subst (UpWith K) (sym ends.left) h in
      cond_both (length q.known.waiting == MOST_WAITING) _ _ (Ends (me_of w i) m q.progress left) (λ e. refused _)
      (λ e. cond_both (next_serial q.known == LAST_SERIAL + 1) _ _ (Ends (me_of w i) m q.progress left) (λ e. refused _)
      (λ e ends. up_after m q.progress (on_typed q.known byte) (new_key q.known byte ∷ []) left ends (steady.typed q.known byte g))) ends
  deed_keeps w i m deed.Campaign left calm h does = absurd calm
  deed_keeps w i m deed.Tick left calm h (q, up, ends) =
      up_after m q.progress (on_tick q.known) _ left ends (steady.tick q.known (up_one m q up h))
  deed_keeps w i m (deed.Run steps) left calm h (q, up, runs, is) =
      subst (UpWith K) (sym runs.new_is) (record { running = _; up = refl; holds = up_one m q up h })
  deed_keeps w i m deed.Release left calm h (q, up, is) =
      subst (λ (x : Left). UpWith K x.member) (sym is) (release_keeps m q _ h (up_one m q up h))
  deed_keeps w i m deed.Crash left calm h does = absurd calm

-- ---- the two facts

module _ (tests : TestLaws) (b : Ballot) where
  abbrev pub Low : Option Ballot → Type 0
  Low o = IfSome o (λ p. IsAtMost p b)

  not_above : (c : Ballot) → ¬ IsBelow b c → IsAtMost c b
  not_above c low = by (ballot_lt b c) refl where
    by : (t : Bool) → ballot_lt b c ≡ t → IsAtMost c b
    by true e = absurd (low ((tests.below b c).0 e))
    by false e = (tests.not_below b c).0 e

  pub low_kept : IsKept b Low
  low_kept o c low e h = not_above c low

  abbrev pub Promised : Option Ballot → Type 0
  Promised o = o ≡ Some b

  same_at : (c : Ballot) → IsAtMost c b → IsAtMost b c → c ≡ b
  same_at c low high = let round : c.round ≡ b.round = omega (arith, low, high) in let node : c.node ≡ b.node = omega (
    arith,
    low,
    high,
  ) in rw (round, node) refl

  pub promised_kept : IsKept b Promised
  promised_kept o c low e h = let g : greater_promise (Some b) c ≡ None = subst (λ o. greater_promise o c ≡ None) h e in ap Some
      (by (ballot_lt c b) refl g) where
        by : (t : Bool) → ballot_lt c b ≡ t → greater_promise (Some b) c ≡ None → c ≡ b
        by true e g = let u : (if true then Some b else None) ≡ None = subst (λ t. (if t then Some b else None) ≡ None) e g in absurd (cc u)
        by false e g = same_at c (not_above c low) ((tests.not_below c b).0 e)
