-- What holds of each node that is up holds after a deed of one of them, if it holds of what the call
-- of that deed leaves.
use Rattle.std.proofs.Common.{◌≡◌, ℕ, ◌+◌, ◌==◌, Bool, [], length, Option, Some, None, IfSome, nat_lt, sym, subst}
use Rattle.std.proofs.lemmas.Bool.{cond_both}
use Rattle.paxos_msg.specs.declared.limits.TheConstants.{LAST_ROUND, LAST_SERIAL, LAST_START, PLACES}
use Rattle.paxos_msg.specs.Batches.{Record}
use Rattle.group_protocol.specs.declared.limits.TheConstants.{MOST_WAITING}
use Rattle.paxos_acceptor.specs.declared.me.Me.{Me}
use Rattle.group_protocol.specs.Known.{Known, front, next_serial, on_start, on_typed}
use Rattle.group_protocol.specs.Protocol.{on_message}
use Rattle.group_protocol.specs.ProposerResponses.{last_round, on_campaign}
use Rattle.group_protocol.specs.Tick.{on_tick}
use Rattle.group_node.specs.Deeds as deed
use Rattle.group_node.specs.Deeds.{Deed}
use Rattle.group_node.specs.NodeCalls.{Makes, NodeCall, Refuses, Running, call_of_campaign, call_of_press, call_of_start}
use Rattle.group_node.specs.Output.{Progress, no_progress}
use Rattle.group_world.specs.declared.event.Done.{Done}
use Rattle.group_world.specs.Deeds.{DoesDeed, EndsCall, Left}
use Rattle.group_world.specs.Event.{DoesAt}
use Rattle.group_world.specs.Group.{IsUp, me_of, member_at, World}
use Rattle.group_world.specs.Member.{Member, call_outcome, failing, member_after, member_after_release, save_outcome}
use Rattle.group_world.proofs.WorldAsGroup.{each_changed}

-- it holds of the node of a member, if that is up
abbrev pub OfMember : (Known → Type 0) → Member → Type 0
OfMember P m = IfSome m.node (λ q. P q.known)

-- it holds of each node of a world that is up
abbrev pub OfWorld : (Known → Type 0) → World → Type 0
OfWorld P w = (i : ℕ) (m : Member) → member_at w.members i ≡ Some m → OfMember P m

-- it holds of what the call of a deed leaves, at a node that is up or that starts
abbrev pub OfCall : (Known → Type 0) → Me → Known → Deed → Type 0
OfCall P me n (deed.Hear m) = P (on_message n m.sender m.body).node
OfCall P me n (deed.Press byte) = P (on_typed n byte).node
OfCall P me n deed.Campaign = P (on_campaign n).node
OfCall P me n deed.Tick = P (on_tick n).node
OfCall P me n _ = Unit {0}

module _ (P : Known → Type 0) where
  abbrev IsKept : NodeCall → Type 0
  IsKept (Refuses f) = Unit {0}
  IsKept (Makes done keys) = P done.node

  after_call : (m : Member) (progress : Progress) (plan : Option Bool) (call : NodeCall) → OfMember P m → IsKept call
      → OfMember P (member_after m progress (call_outcome plan m.kept call))
  after_call m progress plan (Refuses f) h kept = h
  after_call m progress plan (Makes done keys) h kept = by (failing done.saves plan) where
    by : (o : Option Bool) → OfMember P (member_after m progress (save_outcome m.kept done keys o))
    by None = kept
    by (Some changed) = tt

  ends_call : {me : Me} (m : Member) (progress : Progress) (plan : Option Bool) (call : NodeCall) (left : Left) → OfMember P m
      → EndsCall me m progress plan call left → IsKept call → OfMember P left.member
  ends_call m progress plan call left h ends kept = subst (OfMember P) (sym ends.left) (after_call m progress plan call h kept)

  up_of : (m : Member) {q : Running} → m.node ≡ Some q → OfMember P m → P q.known
  up_of m {q} up h = rw up at h

  after_release : (m : Member) (q : Running) (o : Option ℕ) → m.node ≡ Some q → OfMember P m → OfMember P (member_after_release m q o)
  after_release m q None up h = h
  after_release m q (Some byte) up h = up_of m up h

  of_start : (me : Me) (r : Record) → P (on_start me r).node → IsKept (call_of_start me r)
  of_start me r h = cond_both (r.starts == LAST_START) _ _ IsKept (λ e. tt) (λ e. h)

  of_press : (n : Known) (byte : ℕ) → P (on_typed n byte).node → IsKept (call_of_press n byte)
  of_press n byte h =
      cond_both (length n.waiting == MOST_WAITING) _ _ IsKept (λ e. tt)
      (λ e. cond_both (next_serial n == LAST_SERIAL + 1) _ _ IsKept (λ e. tt) (λ e. h))

  of_campaign : (n : Known) → P (on_campaign n).node → IsKept (call_of_campaign n)
  of_campaign n h =
      cond_both (nat_lt (last_round n) LAST_ROUND) _ _ IsKept
      (λ e. cond_both (front n == PLACES) _ _ IsKept (λ e. tt) (λ e. h)) (λ e. tt)

  module _ (begins : (me : Me) (r : Record) → P (on_start me r).node) (w : World) (i : ℕ) (m : Member) (h : OfMember P m) where
    after_deed : (plan : Option Bool) (d : Deed) (left : Left) → ((q : Running) → m.node ≡ Some q → OfCall P (me_of w i) q.known d)
        → DoesDeed w.program (me_of w i) m plan d left → OfMember P left.member
    after_deed plan deed.Idle left calls does = subst (λ (x : Left). OfMember P x.member) (sym does) h
    after_deed plan (deed.Start r) left calls (down, is, ends) =
        ends_call m (no_progress w.program) plan (call_of_start (me_of w i) r) left h ends (of_start (me_of w i) r (begins (me_of w i) r))
    after_deed plan (deed.Hear message) left calls (q, up, ends) =
        ends_call m q.progress plan (Makes (on_message q.known message.sender message.body) []) left h ends (calls q up)
    after_deed plan (deed.Press byte) left calls (q, up, low, ends) =
        ends_call m q.progress plan (call_of_press q.known byte) left h ends (of_press q.known byte (calls q up))
    after_deed plan deed.Campaign left calls (q, up, ends) =
        ends_call m q.progress plan (call_of_campaign q.known) left h ends (of_campaign q.known (calls q up))
    after_deed plan deed.Tick left calls (q, up, ends) =
        ends_call m q.progress plan (Makes (on_tick q.known) []) left h ends (calls q up)
    after_deed plan (deed.Run steps) left calls (q, up, runs, is) = subst (OfMember P) (sym runs.new_is) (up_of m up h)
    after_deed plan deed.Release left calls (q, up, is) =
        subst (λ (x : Left). OfMember P x.member) (sym is) (after_release m q _ up h)
    after_deed plan deed.Crash left calls (q, up, is) = subst (λ (x : Left). OfMember P x.member) (sym is) tt

  -- each deed keeps it, if its call does
  pub deed_keeps : ((me : Me) (r : Record) → P (on_start me r).node) → (w v : World) (i : ℕ) (plan : Option Bool) (d : Deed)
      (done : Done) → OfWorld P w → DoesAt w i plan d done v
      → ((m : Member) (q : Running) → IsUp w i m q → OfCall P (me_of w i) q.known d) → OfWorld P v
  deed_keeps begins w v i plan d done h does calls =
      rw does.leads (each_changed w.members i does.node does.left.member does.there (λ j m. OfMember P m)
      (after_deed begins w i does.node (h i does.node does.there) plan d does.left
      (λ q up. calls does.node q (record { there = does.there; up = up })) does.does)
      (λ j other apart at. h j other at))
