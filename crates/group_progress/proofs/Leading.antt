-- The leading node's proposer stays through calm calls, and coverages only rise.
use Rattle.std.proofs.Common.{◌≡◌, ◌≢◌, ◌∙◌, ◌⊎◌, inl, inr, ℕ, zero, suc, ◌<◌, ◌≤◌, List, Option, Some, None, Bool, length, refl, sym, subst, arith, false, true, nat_lt, nat_le, slice_set, slice_index, ◌&&◌, not}
use Rattle.std.proofs.lemmas.Bool.{both_ways, cases_eq, cond_both, ltb-true}
use Rattle.std.proofs.lemmas.List.{get_or-set_same, get_or-set_other, length-set}
use Rattle.paxos_msg.specs.declared.ballot.Ballot.{Ballot}
use Rattle.paxos_msg.specs.declared.message.Body.TheVariants.{Prepare, Promise, Accept, Accepted, Refused, Submit, Ask, Tell}
use Rattle.paxos_msg.specs.declared.value.Value.{Value}
use Rattle.paxos_msg.specs.Batches.{Body, Vote}
use Rattle.paxos_msg.specs.Tests.{same_ballot}
use Rattle.paxos_proposer.specs.declared.proposer.TheConstants.{MOST_PUMPED}
use Rattle.paxos_proposer.specs.Proposer.{Proposer, coverage_of, is_covered, next_of, next_value, proposer_after_part, proposing, rises}
use Rattle.group_protocol.specs.AcceptorResponses.{unless_passed}
use Rattle.group_protocol.specs.Known.{Known, Response}
use Rattle.group_protocol.specs.Protocol.{on_message}
use Rattle.group_protocol.specs.ProposerResponses.{is_known, leaves_room, offer_after, submitted, taking_part, unless_refused}
use Rattle.group_protocol.specs.Pump.{Proposals, offer, pump, stop}
use Rattle.group_protocol.specs.Tick.{ticked}
use Rattle.group_progress.specs.Below.{TestLaws}
use Rattle.group_progress.proofs.Calm.{IsCalmBody, IsSteady, Promised, message_keeps, promised_kept}
use Rattle.group_progress.proofs.Learning.{not_passed}
use Rattle.group_progress.proofs.Proposers.{rises_on}

second : (x y : Bool) → (x && y) ≡ true → y ≡ true
second true y e = e
second false y e = absurd cc

-- a proposer that has only heard and proposed more
pub record Same (p q : Proposer) : Type 0 where
  pub ballot : q.ballot ≡ p.ballot
  pub coverages : q.coverages ≡ p.coverages

pub pump_same : (n : ℕ) (p : Proposer) → Same p (pump n p).proposer
unfolding pump
pump_same zero p = record { ballot = refl; coverages = refl }
pump_same (suc n) p = by (λ q. pump_same n q) (next_value p None) refl where
  by : ((q : Proposer) → Same q (pump n q).proposer) → (o : Option Value) → next_value p None ≡ o → Same p (pump (suc n) p).proposer
  by more None e = rw e (record { ballot = refl; coverages = refl })
  by more (Some v) e = let rest = more (proposing p (Some v)) in rw e (record { ballot = rest.ballot; coverages = rest.coverages })

offer_same : (p : Proposer) (v : Value) → Same p (offer p v).proposer
offer_same p v = by (next_value p (Some v)) refl where
  by : (o : Option Value) → next_value p (Some v) ≡ o → Same p (offer p v).proposer
  by None e = rw e (record { ballot = refl; coverages = refl })
  by (Some u) e = rw e (record { ballot = refl; coverages = refl })

after_same : (pumped : Proposals) (v : Value) → Same pumped.proposer (offer_after pumped v).proposer
after_same pumped v =
    cond_both (leaves_room pumped) (offer pumped.proposer v) (stop pumped.proposer) (λ (x : Proposals). Same pumped.proposer x.proposer)
    (λ e. offer_same pumped.proposer v) (λ e. record { ballot = refl; coverages = refl })

-- the node leads under the ballot, and node `j` has covered as much
pub record Covers (b : Ballot) (j c : ℕ) (n : Known) : Type 0 where
  pub proposer : Proposer
  pub now : n.proposer ≡ Some proposer
  pub ballot : proposer.ballot ≡ b
  pub promised : n.kept.promised ≡ Some b
  pub covers : c ≤ coverage_of proposer j
  pub node : 10 ≤ length proposer.coverages

module _ (tests : TestLaws) (b : Ballot) (j c : ℕ) (few : j < 10) where
  -- a proposer under the ballot that covers as much
  record Goes (p : Proposer) : Type 0 where
    pub ballot : p.ballot ≡ b
    pub covers : c ≤ coverage_of p j
    pub node : 10 ≤ length p.coverages

  same_goes : {p q : Proposer} → Same p q → Goes p → Goes q
  same_goes same h = record {
    ballot = same.ballot ∙ h.ballot;
    covers = subst (λ cs. c ≤ slice_index cs j) (sym same.coverages) h.covers;
    node = subst (λ (cs : List ℕ). 10 ≤ length cs) (sym same.coverages) h.node;
  }

  part_goes : (p : Proposer) (i first upto : ℕ) (votes : List Vote) → Goes p → Goes (proposer_after_part p i first upto votes)
  part_goes p i first upto votes h = cond_both (rises p i first upto) _ _ Goes (λ e. record {
    ballot = h.ballot;
    covers = up (cases_eq j i) (ltb-true (coverage_of p i) upto
        (second (nat_le first (coverage_of p i)) (nat_lt (coverage_of p i) upto) e));
    node = subst (λ k. 10 ≤ k) (sym (length-set p.coverages i upto)) h.node;
  }) (λ e. h) where
    up : (j ≡ i) ⊎ (j ≢ i) → coverage_of p i < upto → c ≤ slice_index (slice_set p.coverages i upto) j
    up (inl same) less =
        let at : slice_index (slice_set p.coverages j upto) j ≡ upto = get_or-set_same p.coverages j upto 0 (omega (arith, h.node, few)) in
        let low : c ≤ coverage_of p j = h.covers in
        let more : coverage_of p j < upto = subst (λ k. coverage_of p k < upto) (sym same) less in
        subst (λ k. c ≤ slice_index (slice_set p.coverages k upto) j) same (omega (arith, at, low, more))
    up (inr other) less = subst (λ k. c ≤ k) (sym (get_or-set_other p.coverages i j upto 0 other)) h.covers

  goes_of : {n : Known} (h : Covers b j c n) → Goes h.proposer
  goes_of h = record { ballot = h.ballot; covers = h.covers; node = h.node }

  covers_by : (n : Known) (p : Proposer) → n.proposer ≡ Some p → n.kept.promised ≡ Some b → Goes p → Covers b j c n
  covers_by n p now promised g = record {
    proposer = p;
    now = now;
    ballot = g.ballot;
    promised = promised;
    covers = g.covers;
    node =
        g.node;
  }

  -- the acceptor answers
  stays_passed : (p : Proposer) (promised : Option Ballot) (o : Option Proposer) → promised ≡ Some b → o ≡ Some p → p.ballot ≡ b →
      unless_passed promised o ≡ Some p
  stays_passed p promised o e is ballot = rw (e, is) (not_passed tests b p ballot)

  stays_refused : (p : Proposer) (d : Ballot) (o : Option Proposer) → o ≡ Some p → p.ballot ≡ b → d ≢ b → unless_refused d o ≡ Some p
  stays_refused p d o is ballot other = rw is (by (same_ballot p.ballot d) refl) where
    by : (t : Bool) → same_ballot p.ballot d ≡ t → unless_refused d (Some p) ≡ Some p
    by true e = absurd (other (sym ((tests.same p.ballot d).0 e) ∙ ballot))
    by false e = rw e refl

  module _ (n : Known) (h : Covers b j c n) where
    abbrev p : Proposer
    p = h.proposer

    part_covers : (o : Option Proposer) → o ≡ Some p → (i : ℕ) (d : Ballot) (first upto : ℕ) (votes : List Vote)
        → Covers b j c (taking_part n o i d first upto votes).node
    part_covers o is i d first upto votes = rw is
        (cond_both (same_ballot p.ballot d) _ _ (λ (x : Response). Covers b j c x.node)
        (λ e. covers_by _ (pump MOST_PUMPED (proposer_after_part p i first upto votes)).proposer refl h.promised
        (same_goes (pump_same MOST_PUMPED (proposer_after_part p i first upto votes)) (part_goes p i first upto votes (goes_of h))))
        (λ e. h))

    submit_covers : (o : Option Proposer) → o ≡ Some p → (v : Value) → Covers b j c (submitted n o v).node
    submit_covers o is v = rw is
        (cond_both (is_covered p (next_of p) && not (is_known n v)) _ _ (λ (x : Response). Covers b j c x.node)
        (λ e. covers_by _ (offer_after (pump MOST_PUMPED p) v).proposer refl h.promised
        (same_goes (after_same (pump MOST_PUMPED p) v) (same_goes (pump_same MOST_PUMPED p) (goes_of h)))) (λ e. h))

    tick_covers : (o : Option Proposer) → o ≡ Some p → Covers b j c (ticked n o).node
    tick_covers o is = rw is (covers_by _ (pump MOST_PUMPED p).proposer refl h.promised (same_goes (pump_same MOST_PUMPED p) (goes_of h)))

    message_covers : (i : ℕ) (body : Body) → IsCalmBody b body → Covers b j c (on_message n i body).node
    message_covers i (Prepare d from) calm =
        let promised = message_keeps (Promised tests b) (promised_kept tests b) n h.promised i (Prepare d from) calm.0 in
        covers_by _ p (stays_passed p _ n.proposer promised h.now h.ballot) promised (goes_of h)
    message_covers i (Accept d s v) calm =
        let promised = message_keeps (Promised tests b) (promised_kept tests b) n h.promised i (Accept d s v) calm.0 in
        covers_by _ p (stays_passed p _ n.proposer promised h.now h.ballot) promised (goes_of h)
    message_covers i (Promise d first upto votes) calm =
        let g = part_covers n.proposer h.now i d first upto votes in covers_by _ g.proposer g.now g.promised (goes_of g)
    message_covers i (Accepted d s v) calm = covers_by _ p h.now h.promised (goes_of h)
    message_covers i (Refused d promised) calm =
        covers_by _ p (stays_refused p d n.proposer h.now h.ballot (calm.1 d promised refl)) h.promised (goes_of h)
    message_covers i (Submit v) calm = let g = submit_covers n.proposer h.now v in covers_by _ g.proposer g.now g.promised (goes_of g)
    message_covers i (Ask from) calm = covers_by _ p h.now h.promised (goes_of h)
    message_covers i (Tell s v) calm = covers_by _ p h.now h.promised (goes_of h)

  pub covers_steady : IsSteady b (Covers b j c)
  covers_steady = record {
    message = λ n i body calm h. message_covers n h i body calm;
    tick = λ n h. tick_covers n h n.proposer h.now;
    typed = λ n byte h. covers_by _ h.proposer h.now h.promised (goes_of h);
  }

-- ---- a part that reaches further

part_up : (tests : TestLaws) (b : Ballot) (j from upto : ℕ) (few : j < 10) (votes : List Vote) (p : Proposer) → Goes tests b j from few
    p → from < upto
    → Goes tests b j (suc from) few (proposer_after_part p j from upto votes)
part_up tests b j from upto few votes p h less = by (cases_eq from (coverage_of p j)) where
  by : (from ≡ coverage_of p j) ⊎ (from ≢ coverage_of p j) → Goes tests b j (suc from) few (proposer_after_part p j from upto votes)
  by (inr other) =
      part_goes tests b j (suc from) few p j from upto votes
      (record { ballot = h.ballot; covers = omega (arith, h.covers, other); node = h.node })
  by (inl same) =
      let rise = rises_on p j from upto (sym same) less in
      let at : slice_index (slice_set p.coverages j upto) j ≡ upto = get_or-set_same p.coverages j upto 0 (omega (arith, h.node, few)) in
      rw rise (record {
        ballot = h.ballot;
        covers = omega (arith, at, less);
        node = subst (λ k. 10 ≤ k) (sym (length-set p.coverages j upto)) h.node;
      })

pub promise_up : (tests : TestLaws) (b : Ballot) (j from upto : ℕ) (few : j < 10) (votes : List Vote) (n : Known) → Covers b j from n →
    from < upto
    → Covers b j (suc from) (on_message n j (Promise b from upto votes)).node
promise_up tests b j from upto few votes n h less =
    let g = by n.proposer h.now in covers_by tests b j (suc from) few _ g.proposer g.now g.promised
    (goes_of tests b j (suc from) few g) where
      by : (o : Option Proposer) → o ≡ Some h.proposer → Covers b j (suc from) (taking_part n o j b from upto votes).node
      by o is = rw is
          (cond_both (same_ballot h.proposer.ballot b) _ _ (λ (x : Response). Covers b j (suc from) x.node)
          (λ e. covers_by tests b j (suc from) few _ (pump MOST_PUMPED (proposer_after_part h.proposer j from upto votes)).proposer
          refl h.promised
          (same_goes tests b j (suc from) few (pump_same MOST_PUMPED (proposer_after_part h.proposer j from upto votes))
          (part_up tests b j from upto few votes h.proposer (goes_of tests b j from few h) less)))
          (λ e. absurd (both_ways (same_ballot h.proposer.ballot b) e ((tests.same h.proposer.ballot b).1 h.ballot))))
