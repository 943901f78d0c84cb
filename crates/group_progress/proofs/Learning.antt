-- What the leading node has proposed is accepted by all, and the node learns it.
use Rattle.std.proofs.Common.{◌≡◌, ◌≢◌, ◌∙◌, ◌⊎◌, inl, inr, ℕ, suc, ◌+◌, ◌<◌, ◌≤◌, IsTrue, Contains, List, [], slice_get, Option, Some, None, IfSome, refl, sym, ap, subst, arith, false, true}
use Rattle.std.proofs.lemmas.Bool.{and_from, cases_eq, cases_Bool, eq-eqb}
use Rattle.std.proofs.lemmas.Option.{slice_get_within, get_or_from_slice_get}
use Rattle.std.specs.FinMap.{get}
use Rattle.paxos_msg.specs.declared.ballot.Ballot.{Ballot}
use Rattle.paxos_msg.specs.declared.message.Group.{Group}
use Rattle.paxos_msg.specs.declared.message.Body.TheVariants.{Accept, Accepted}
use Rattle.paxos_msg.specs.declared.value.Value.{Value}
use Rattle.paxos_msg.specs.Ballots.{IsAtMost, IsBelow, IsMajority}
use Rattle.paxos_msg.specs.Batches.{Sent, Vote}
use Rattle.paxos_msg.specs.Keys.{Key}
use Rattle.paxos_msg.specs.Messages.{IsSaid, kept_vote_at}
use Rattle.paxos_msg.specs.Tests.{ballot_lt, same_ballot}
use Rattle.paxos_acceptor.specs.declared.me.Me.{Me}
use Rattle.paxos_acceptor.specs.Records.{IsVoteBacked}
use Rattle.paxos_learner.specs.declared.learner.TheConstants.{WINDOW}
use Rattle.paxos_learner.specs.Learner.{HasLearnedMore, IsFront, Learner, front_of, heard_accepted}
use Rattle.paxos_learner.specs.Tallies.{Tally}
use Rattle.paxos_proposer.specs.Proposer.{Proposer}
use Rattle.group_protocol.proofs.Elements.{first_in}
use Rattle.group_protocol.specs.AcceptorResponses.{unless_passed}
use Rattle.group_protocol.specs.Known.{Known, Response}
use Rattle.group_protocol.specs.Packets.{bodies_of}
use Rattle.group_protocol.specs.Protocol.{on_message}
use Rattle.group_node.specs.NodeCalls.{Running}
use Rattle.group_world.specs.Group.{World, world_state}
use Rattle.group_progress.specs.GoingOn.{ReachesWithin}
use Rattle.group_world.proofs.WorldAsGroup.{running}
use Rattle.group_progress.specs.Below.{TestLaws, LeadLaws}
use Rattle.group_progress.proofs.Within.{stay, then, within}
use Rattle.group_progress.proofs.Acceptors.{Votes, votes_for}
use Rattle.group_progress.proofs.Going.{Good}
use Rattle.group_progress.proofs.KeysKept.{Shrinks, shrink_after}
use Rattle.group_progress.proofs.Learners.{Counts, IsLearnedAt, MayJoin, hears_accepted, learned_by}
use Rattle.group_progress.proofs.Tallies.{AreRight}
use Rattle.group_progress.proofs.Steps.{Has, New, Step, each_within, hears, still}
use Rattle.group_progress.proofs.Common.{Common, Follows, IsOf, Setting, common_after, grown, none_greater, one_known, sends_new, still_new}

-- the leading node has this proposer under the ballot, has learned so far, and has offered these keys
pub record Lead (x : Setting) (w : World) (p : Proposer) (l : Learner) (offered : List Key) : Type 0 where
  pub known : Known
  pub has : Has w x.leader known
  pub proposer : known.proposer ≡ Some p
  pub ballot : p.ballot ≡ x.ballot
  pub learner : known.learner ≡ l
  pub offers : known.offered ≡ offered

-- ---- the leading node after an event

module _ (x : Setting) {w v : World} {i : ℕ} {done : Response} (step : Step w i done v) {p : Proposer} {l : Learner} {offered : List Key}
    (lead : Lead x w p l offered) where
  -- of any node that leaves it so
  pub lead_kept : (i ≡ x.leader → (done.node.proposer ≡ Some p) × (done.node.learner ≡ l) × (done.node.offered ≡ offered)) → Lead x v p
      l offered
  lead_kept same = by (cases_eq x.leader i) where
    by : (x.leader ≡ i) ⊎ (x.leader ≢ i) → Lead x v p l offered
    by (inr other) = record {
      known = lead.known;
      has = still step x.leader other lead.has;
      proposer = lead.proposer;
      ballot = lead.ballot;
      learner = lead.learner;
      offers = lead.offers;
    }
    by (inl is) =
        let keeps = same (sym is) in record {
          known = done.node;
          has = subst (λ j. Has v j done.node) (sym is) step.now;
          proposer = keeps.0;
          ballot = lead.ballot;
          learner = keeps.1;
          offers = keeps.2;
        }

-- ---- Accepts

pub not_passed : TestLaws → (b : Ballot) (p : Proposer) → p.ballot ≡ b → unless_passed (Some b) (Some p) ≡ Some p
not_passed tests b p e =
    let low : ballot_lt p.ballot b ≡ false = rw e ((tests.not_below b b).1 (inr (refl, omega arith))) in rw low refl

pub one_ballot : TestLaws → (a b : Ballot) → IsAtMost b a → IsAtMost a b → a ≡ b
one_ballot tests a b h g = (tests.same a b).0 (by h g) where
  by : IsAtMost b a → IsAtMost a b → same_ballot a b ≡ true
  by (inl less) (inl more) = absurd (omega (arith, less, more))
  by (inl less) (inr (same, node)) = absurd (omega (arith, less, same))
  by (inr (same, node)) (inl less) = absurd (omega (arith, less, same))
  by (inr (same, node)) (inr (is, other)) = and_from _ _ (eq-eqb a.round b.round is) (eq-eqb a.node b.node (omega (arith, node, other)))

in_from_place : {X : Type 0} (xs : List X) (s : ℕ) (x : X) → slice_get xs s ≡ Some x → Contains xs x
in_from_place xs s x e = (s, slice_get_within xs s x e, get_or_from_slice_get xs s x x e)

module _ (laws : LeadLaws) (x : Setting) (most : IsMajority x.group.size x.members) where
  -- a node that has promised the ballot votes for what was proposed under it
  vote_one : {w : World} {i : ℕ} (c : Common x w) (f : Follows x w i) (j s : ℕ) (u : Value) → IsSaid (world_state w).sent
      (Accept x.ballot s u)
      → Votes laws.tests f.known x.ballot s u (on_message f.known j (Accept x.ballot s u))
  vote_one {w} {i} c f j s u said =
      let sound = running c.good.holds.sound (record { there = f.has.there; up = f.has.up }) in
      votes_for laws.tests f.known j x.ballot s u f.promised (by (kept_vote_at f.known.kept.votes s) (sound.backs.kept.votes.votes s)) where
        by : (o : Option Vote) → IfSome o (IsVoteBacked (world_state w).sent f.known.kept s)
            → IfSome o (λ vote. vote.ballot ≡ x.ballot → vote.value ≡ u)
        by None h = tt
        by (Some vote) h =
            λ same. (grown x c most).one_value x.ballot s vote.value u
            (subst (λ b. IsSaid (world_state w).sent (Accept b s vote.value)) same h.proposed) said

  -- a tally of the place may be joined
  may_join : {w : World} (c : Common x w) {i : ℕ} {k : Known} → Has w i k → (s : ℕ) (u : Value) → IsSaid (world_state w).sent
      (Accept x.ballot s u)
      → (t : Tally) → get k.learner.tallies s ≡ Some t → MayJoin laws.tests x.ballot u t
  may_join {w} c {i} {k} has s u said t at =
      let sound = running c.good.holds.sound (record { there = has.there; up = has.up }) in
      let right : AreRight k.learner = subst (λ o. IfSome o (λ (q : Running). AreRight q.known.learner)) has.up
      (c.good.tallies.members i has.node has.there) in
      let one = right s t at in
      let accepted = sound.backs.learner.tallied s t at one.node one.has in
      let proposed = (grown x c most).accepted one.node t.ballot s t.value accepted in
      let above = none_greater x c most t.ballot s t.value proposed in
      by (cases_Bool (ballot_lt t.ballot x.ballot)) (cases_Bool (ballot_lt x.ballot t.ballot)) above proposed where
        by : (ballot_lt t.ballot x.ballot ≡ true) ⊎ (ballot_lt t.ballot x.ballot ≡ false)
            → (ballot_lt x.ballot t.ballot ≡ true) ⊎ (ballot_lt x.ballot t.ballot ≡ false) → ¬ IsBelow x.ballot t.ballot
            → IsSaid (world_state w).sent (Accept t.ballot s t.value) → MayJoin laws.tests x.ballot u t
        by (inl less) other above proposed = inl less
        by (inr least) (inl more) above proposed = absurd (above ((laws.tests.below x.ballot t.ballot).0 more))
        by (inr least) (inr most_of) above proposed =
            let same : t.ballot ≡ x.ballot = one_ballot laws.tests t.ballot x.ballot ((laws.tests.not_below t.ballot x.ballot).0 least)
            ((laws.tests.not_below x.ballot t.ballot).0 most_of) in
            inr (
              same,
              (grown x c most).one_value x.ballot s t.value u
                  (subst (λ b. IsSaid (world_state w).sent (Accept b s t.value)) same proposed) said,
            )

  -- ---- all vote for what was proposed

  abbrev AreNew : World → ℕ → Value → ℕ → Type 0
  AreNew v s u i = New x.count (world_state v).sent (record { sender = i; body = Accepted x.ballot s u })

  said_new : {sent : Sent} {j s : ℕ} {u : Value} → New x.count sent (record { sender = j; body = Accept x.ballot s u }) → IsSaid sent
      (Accept x.ballot s u)
  said_new {sent} {j} new = (j, in_from_place sent new.number _ new.at)

  pub accept_all : {p : Proposer} {l : Learner} {offered : List Key} (s : ℕ) (u : Value) (w : World) → Common x w → Lead x w p l offered
      → New x.count (world_state w).sent (record { sender = x.leader; body = Accept x.ballot s u })
      → ReachesWithin 0 x.group.size x.members x.count w (λ v. Common x v × Lead x v p l offered × ((i : ℕ) → IsOf x i → AreNew v s u i))
  accept_all {p} {l} {offered} s u w c lead new =
      within (then (each_within x.group.size 0 1 (λ k. Inv) (λ i v. AreNew v s u i) (λ k v none inv. inv) one w (c, lead, new))
      (λ v all. stay (all.0.0, all.0.1, λ i of. all.1 i of.some of.below of.own))) (omega arith) (omega arith) where
        Inv : World → Type 0
        Inv v = Common x v × Lead x v p l offered × New x.count (world_state v).sent
            (record { sender = x.leader; body = Accept x.ballot s u })

        one : (k : ℕ) (v : World) → suc k ≤ x.group.size → IsTrue (x.members (suc k)) → Inv v
            → ReachesWithin 0 1 x.members x.count v (λ y. Inv y × AreNew y s u (suc k) ×
            ((j : ℕ) → j ≢ suc k → AreNew v s u j → AreNew y s u j))
        one k v low own (c, lead, new) =
            let f = c.follow (suc k) (record { some = omega arith; below = low; own = own }) in
            let votes = vote_one c f x.leader s u (said_new new) in
            hears laws.events c.good (suc k) own f.has new (λ y step. (
              (
                common_after x c step votes.promised (shrink_after laws.keys f.known x.leader (Accept x.ballot s u) f.keys),
                lead_kept x step lead (λ is.
                    let same : f.known ≡ lead.known = one_known f.has (subst (λ j. Has v j lead.known) (sym is) lead.has) in (
                      votes.proposer ∙ ap (λ (k : Known). unless_passed (Some x.ballot) k.proposer) same ∙ ap
                          (unless_passed (Some x.ballot)) lead.proposer ∙ not_passed laws.tests x.ballot p lead.ballot,
                      votes.rest.learner ∙ ap (λ (k : Known). k.learner) same ∙ lead.learner,
                      votes.rest.offered ∙ ap (λ (k : Known). k.offered) same ∙ lead.offers,
                    )),
                still_new x c step new,
              ),
              sends_new x c step (Accepted x.ballot s u) (subst (λ ps. Contains (bodies_of ps) (Accepted x.ballot s u))
                  (sym votes.sends) (first_in _ [])),
              λ j other old. still_new x c step old,
            ))

  -- ---- the leading node hears of all votes

  pub size_of : {w : World} {i : ℕ} {k : Known} → Common x w → Has w i k → k.learner.size ≡ x.group.size
  size_of {w} {i} {k} c has =
      let sound = running c.good.holds.sound (record { there = has.there; up = has.up }) in
      sound.ranges.learner.size ∙ ap (λ (me : Me). me.group.size) sound.me_is ∙ ap (λ (g : Group). g.size) c.group

  pub right_of : {w : World} → Good w → {i : ℕ} {k : Known} → Has w i k → AreRight k.learner
  right_of good {i} {k} has = subst (λ o. IfSome o (λ (q : Running). AreRight q.known.learner)) has.up
      (good.tallies.members i has.node has.there)

  pub more_learned : (a b c : Learner) → HasLearnedMore a.learned b.learned → HasLearnedMore b.learned c.learned → HasLearnedMore
      a.learned c.learned
  more_learned a b c h g = record { stays = λ s v e. g.stays s v (h.stays s v e) }

  pub record Further (w : World) (p : Proposer) (l : Learner) (offered : List Key) : Type 0 where
    pub now : Learner
    pub lead : Lead x w p now offered
    pub more : HasLearnedMore l.learned now.learned

  module _ (leader : IsOf x x.leader) (p : Proposer) (l : Learner) (offered : List Key) (s : ℕ) (u : Value) where
    abbrev Hearing : World → Type 0
    Hearing v = Common x v × New x.count (world_state v).sent (record { sender = x.leader; body = Accept x.ballot s u })
        × ((i : ℕ) → IsOf x i → AreNew v s u i) × Further v p l offered

    abbrev Counted : ℕ → World → Type 0
    Counted i v = (k : Known) → Has v x.leader k → Counts k.learner x.ballot s u i

    count_one : s < front_of l.learned + WINDOW → (k : ℕ) (v : World) → suc k ≤ x.group.size → IsTrue (x.members (suc k)) → Hearing v
        → ReachesWithin 0 1 x.members x.count v (λ y. Hearing y × Counted (suc k) y × ((j : ℕ) → j ≢ suc k → Counted j v → Counted j y))
    count_one below k v low own (c, new, all, far) =
        let lead = far.lead in
        let f = c.follow x.leader leader in
        let same : f.known ≡ lead.known = one_known f.has lead.has in
        let i : ℕ = suc k in
        let few : i < 10 = omega (arith, low, c.good.holds.sound.size.few, ap (λ (g : Group). g.size) c.group) in
        let near : s < front_of lead.known.learner.learned + WINDOW =
        omega (arith, below, laws.front_rises l far.now far.more, ap (λ (l : Learner). front_of l.learned) lead.learner) in
        let after = hears_accepted laws.tests lead.known.learner (right_of c.good lead.has) x.ballot s u i few near
        (may_join c lead.has s u (said_new new)) in
        hears laws.events c.good x.leader leader.own lead.has (all i (record { some = omega arith; below = low; own = own })) (λ y step.
        let known : Known = (on_message lead.known i (Accepted x.ballot s u)).node in
        let grows : HasLearnedMore lead.known.learner.learned known.learner.learned = laws.learned_accepted lead.known.learner i s
        x.ballot u in (
          (
            common_after x c step (ap (λ (k : Known). k.kept.promised) (sym same) ∙ f.promised)
                (shrink_after laws.keys lead.known i (Accepted x.ballot s u)
                (subst (λ (k : Known). Shrinks (x.keys x.leader) k) same f.keys)),
            still_new x c step new,
            λ j of. still_new x c step (all j of),
            record {
              now = known.learner;
              lead = record {
                known = known;
                has = step.now;
                proposer = lead.proposer;
                ballot = lead.ballot;
                learner = refl;
                offers = lead.offers;
              };
              more = more_learned l far.now known.learner far.more
                  (subst (λ (l : Learner). HasLearnedMore l.learned known.learner.learned) lead.learner grows);
            },
          ),
          λ k has. subst (λ (k : Known). Counts k.learner x.ballot s u i) (one_known step.now has) after.0,
          λ j other old k has. subst (λ (k : Known). Counts k.learner x.ballot s u j) (one_known step.now has)
              (after.1 j (old lead.known lead.has)),
        ))

    pub count_all : (w : World) → s < front_of l.learned + WINDOW → Common x w → Lead x w p l offered
        → New x.count (world_state w).sent (record { sender = x.leader; body = Accept x.ballot s u })
        → ((i : ℕ) → IsOf x i → AreNew w s u i)
        → ReachesWithin 0 x.group.size x.members x.count w (λ v. Common x v × ((far : Further v p l offered) × IsLearnedAt far.now s))
    count_all w below c lead new all =
        let first : Further w p l offered = record { now = l; lead = lead; more = record { stays = λ s v e. e } } in
        within (then (each_within x.group.size 0 1 (λ k. Hearing) Counted (λ k v none inv. inv) (count_one below) w (c, new, all, first))
        (λ v done.
        let (c, new, all, far) = done.0 in
        let known : Known = far.lead.known in
        let size : known.learner.size ≡ x.group.size = size_of c far.lead.has in
        let learned = learned_by laws.tests known.learner (right_of c.good far.lead.has) x.members (rw size most) x.ballot s u
        (λ i some below own. done.1 i some (omega (arith, below, size)) own known far.lead.has) in
        stay (c, (far, subst (λ (l : Learner). IsLearnedAt l s) far.lead.learner learned)))) (omega arith) (omega arith)
