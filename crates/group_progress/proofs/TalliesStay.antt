-- Each deed keeps the tallies of all nodes right.
use Rattle.std.proofs.Common.{◌≡◌, ℕ, ◌<◌, Bool, List, Option, Some, None, IfSome, ◌&&◌, not}
use Rattle.std.proofs.lemmas.Bool.{cond_both}
use Rattle.paxos_msg.specs.declared.ballot.Ballot.{Ballot}
use Rattle.paxos_msg.specs.declared.message.Body.TheVariants.{Prepare, Promise, Accept, Accepted, Refused, Submit, Ask, Tell}
use Rattle.paxos_msg.specs.declared.value.Value.{Value}
use Rattle.paxos_msg.specs.Batches.{Body, Vote}
use Rattle.paxos_msg.specs.Tests.{same_ballot}
use Rattle.paxos_acceptor.specs.declared.me.Me.{Me}
use Rattle.paxos_proposer.specs.Proposer.{Proposer, is_covered, next_of}
use Rattle.group_protocol.specs.Known.{Known, Response}
use Rattle.group_protocol.specs.Protocol.{on_message}
use Rattle.group_protocol.specs.ProposerResponses.{is_known, submitted, taking_part}
use Rattle.group_protocol.specs.Tick.{ticked}
use Rattle.group_node.specs.Deeds as deed
use Rattle.group_node.specs.Deeds.{Deed}
use Rattle.group_world.specs.declared.event.Done.{Done}
use Rattle.group_world.specs.Event.{DoesAt}
use Rattle.group_world.specs.Group.{me_of, member_at, World}
use Rattle.group_world.specs.Member.{Member}
use Rattle.group_progress.proofs.NodesStay.{OfCall, deed_keeps}
use Rattle.group_progress.proofs.Tallies.{AreRight, right_first, right_heard, right_told}

abbrev AreRightAt : Known → Type 0
AreRightAt n = AreRight n.learner

-- the tallies of each node that is up
pub record TalliesRight (w : World) : Type 0 where
  pub members : (i : ℕ) (m : Member) → member_at w.members i ≡ Some m → IfSome m.node (λ q. AreRight q.known.learner)

-- ---- responses

module _ (n : Known) (h : AreRight n.learner) where
  part_right : (o : Option Proposer) (j : ℕ) (b : Ballot) (first upto : ℕ) (votes : List Vote)
      → AreRight (taking_part n o j b first upto votes).node.learner
  part_right None j b first upto votes = h
  part_right (Some p) j b first upto votes =
      cond_both (same_ballot p.ballot b) _ _ (λ (x : Response). AreRight x.node.learner) (λ e. h) (λ e. h)

  submit_right : (o : Option Proposer) (v : Value) → AreRight (submitted n o v).node.learner
  submit_right None v = h
  submit_right (Some p) v =
      cond_both (is_covered p (next_of p) && not (is_known n v)) _ _ (λ (x : Response). AreRight x.node.learner) (λ e. h) (λ e. h)

  tick_right : (o : Option Proposer) → AreRight (ticked n o).node.learner
  tick_right None = h
  tick_right (Some p) = h

  message_right : (j : ℕ) (body : Body) → j < 10 → AreRight (on_message n j body).node.learner
  message_right j (Prepare b from) few = h
  message_right j (Promise b first upto votes) few = part_right n.proposer j b first upto votes
  message_right j (Accept b s v) few = h
  message_right j (Accepted b s v) few = right_heard n.learner h j s b v few
  message_right j (Refused b promised) few = h
  message_right j (Submit v) few = submit_right n.proposer v
  message_right j (Ask from) few = h
  message_right j (Tell s v) few = right_told n.learner h s v

-- ---- deeds

-- the sender of what is heard
abbrev pub HearsFrom : Deed → Type 0
HearsFrom (deed.Hear m) = m.sender < 10
HearsFrom _ = Unit {0}

call_right : (me : Me) (n : Known) (d : Deed) → AreRight n.learner → HearsFrom d → OfCall AreRightAt me n d
call_right me n deed.Idle h few = tt
call_right me n (deed.Start r) h few = tt
call_right me n (deed.Hear m) h few = message_right n h m.sender m.body few
call_right me n (deed.Press byte) h few = h
call_right me n deed.Campaign h few = h
call_right me n deed.Tick h few = tick_right n h n.proposer
call_right me n (deed.Run steps) h few = tt
call_right me n deed.Release h few = tt
call_right me n deed.Crash h few = tt

-- each deed, if what it hears is of a node of the group
pub tallies_stay : (w v : World) (i : ℕ) (plan : Option Bool) (deed : Deed) (d : Done) → TalliesRight w → HearsFrom deed
    → DoesAt w i plan deed d v → TalliesRight v
tallies_stay w v i plan deed d h few does = record {
  members = deed_keeps AreRightAt (λ me r. right_first me.group.size) w v i plan deed d h.members does
      (λ m q up. call_right (me_of w i) q.known deed (rw up.up at (h.members i m up.there)) few);
}
