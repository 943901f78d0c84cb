-- Once all have promised all places, the leading node proposes what was voted for, and all learn it.
use Rattle.std.proofs.Common.{◌≡◌, ◌≢◌, ◌∙◌, ◌⊎◌, inl, inr, ℕ, zero, suc, ◌+◌, ◌-◌, ◌*◌, ◌<◌, ◌≤◌, Contains, List, [], Option, Some, None, IfSome, slice_index, sym, ap, subst, arith, false, true}
use Rattle.std.proofs.lemmas.Bool.{cases_eq, cases_Bool}
use Rattle.paxos_msg.specs.declared.limits.TheConstants.{PLACES}
use Rattle.paxos_msg.specs.Ballots.{IsMajority}
use Rattle.paxos_msg.specs.Batches.{Record}
use Rattle.paxos_msg.specs.Keys.{Key}
use Rattle.paxos_learner.specs.Learner.{Learner, front_of}
use Rattle.paxos_proposer.specs.declared.proposer.TheConstants.{MOST_PUMPED}
use Rattle.paxos_proposer.specs.Proposer.{Proposer, is_kept_from, next_of}
use Rattle.group_protocol.specs.Backs.{IsLeadingBacked}
use Rattle.group_protocol.specs.Known.{Known}
use Rattle.group_protocol.proofs.Elements.{none_in}
use Rattle.group_protocol.specs.Pump.{pump}
use Rattle.group_protocol.specs.Tick.{on_tick, ticked}
use Rattle.group_world.specs.Group.{World, world_state}
use Rattle.group_progress.specs.GoingOn.{ReachesWithin}
use Rattle.group_world.proofs.WorldAsGroup.{running}
use Rattle.group_progress.specs.Below.{LearnLaws, BatchLaws}
use Rattle.group_progress.proofs.Above.{Covers, front_within}
use Rattle.group_progress.proofs.Chasing.{chase}
use Rattle.group_progress.proofs.Common.{Common, Follows, IsOf, Setting, common_after, one_known}
use Rattle.group_progress.proofs.Covering.{Covered}
use Rattle.group_progress.proofs.Cycle.{Settled}
use Rattle.group_progress.proofs.Within.{stay, then, within}
use Rattle.group_progress.proofs.Fronts.{ahead_on, then_on}
use Rattle.group_progress.proofs.KeysKept.{Shrinks, shrink_ticked}
use Rattle.group_progress.proofs.Learning.{Lead}
use Rattle.group_progress.proofs.Proposers.{AreBelow, kept_below}
use Rattle.group_progress.proofs.Pumps.{pumps, pumps_more}
use Rattle.group_progress.proofs.Steps.{Has, ticks}
use Rattle.group_progress.proofs.Submitting.{covered, size_is}
use Rattle.group_progress.proofs.Telling.{Ahead, tell_all, tick_keeps}

tick_pumps : (n : Known) (o : Option Proposer) (p : Proposer) → o ≡ Some p → (ticked n o).node.proposer ≡ Some (pump MOST_PUMPED p).proposer
tick_pumps n None p e = absurd cc
tick_pumps n (Some q) p e = let same : q ≡ p = cc e in ap (λ (r : Proposer). Some (pump MOST_PUMPED r).proposer) same

module _ (more : BatchLaws) (learn : LearnLaws) (x : Setting) (most : IsMajority x.group.size x.members) (leader : IsOf x x.leader)
    (top : ℕ) (l : Learner) (offered : List Key) where
  common_of : {w : World} → (c : Covered more.laws x top leader l offered w) → Common x w
  common_of {w} c = record {
    good = c.cov.pre.good;
    group = c.cov.pre.group;
    late = c.cov.pre.late;
    fresh = c.cov.pre.fresh;
    follow = λ i of. by i of (cases_eq i x.leader);
  } where
    by : (i : ℕ) → IsOf x i → (i ≡ x.leader) ⊎ (i ≢ x.leader) → Follows x w i
    by i of (inr apart) =
        let r = c.cov.pre.ready i of in
        let h = c.promised i of apart in
        let same : h.known ≡ r.known = one_known h.has r.has in
        record { known = r.known; has = r.has; promised = ap (λ (k : Known). k.kept.promised) (sym same) ∙ h.promised; keys = r.keys }
    by i of (inl is) =
        let lead = c.cov.lead in
        let r = c.cov.pre.ready i of in
        let same : lead.known ≡ r.known = one_known lead.has (subst (λ j. Has w j r.known) is r.has) in
        let sound = running c.cov.pre.good.holds.sound (record { there = lead.has.there; up = lead.has.up }) in
        let back : IsLeadingBacked (world_state w).sent lead.known.me.node lead.known.kept c.proposer =
        subst (λ o. IfSome o (IsLeadingBacked (world_state w).sent lead.known.me.node lead.known.kept)) lead.proposer
        sound.backs.proposer in
        record {
          known = r.known;
          has = r.has;
          promised = ap (λ (k : Known). k.kept.promised) (sym same) ∙ back.promised ∙ ap Some lead.ballot;
          keys = r.keys;
        }

  -- the leading node with what it still has to propose
  record Leading (v : World) : Type 0 where
    pub proposer : Proposer
    pub common : Common x v
    pub lead : Lead x v proposer l offered
    pub covers : Covers x proposer
    pub kept : AreBelow top proposer.kept
    pub next : next_of proposer ≤ top
    pub first : proposer.first ≤ front_of l.learned

  -- and nothing more
  record Rested (v : World) : Type 0 where
    pub leading : Leading v
    pub none : is_kept_from leading.proposer.kept (next_of leading.proposer) ≡ false

  pump_once : top < PLACES → (w : World) (a : Leading w) → is_kept_from a.proposer.kept (next_of a.proposer) ≡ true
      → ReachesWithin 1 0 x.members x.count w (λ v. (b : Leading v) × (next_of a.proposer < next_of b.proposer))
  pump_once room w a kept =
      let p : Proposer = a.proposer in
      let k : Known = a.lead.known in
      let low : next_of p < top = kept_below top (next_of p) p.kept a.kept kept in
      let size = size_is more.laws x most a.common a.lead in
      let cov = covered more.laws x most p size a.covers (next_of p) (omega (arith, low, room)) in
      let keeps = tick_keeps k k.proposer in
      let pumped = pumps MOST_PUMPED top p a.kept in
      let rises = pumps_more 15 top p a.kept cov kept in
      let f = a.common.follow x.leader leader in
      let same : f.known ≡ k = one_known f.has a.lead.has in
      within (then (ticks more.laws.events a.common.good x.leader leader.own a.lead.has (λ v s. s)) (λ v s.
      let c = common_after x a.common s (ap (λ (r : Record). r.promised) keeps.kept ∙ ap (λ (k : Known). k.kept.promised) (sym same) ∙
      f.promised)
      (shrink_ticked k (subst (λ (k : Known). Shrinks (x.keys x.leader) k) same f.keys)) in
      let q : Proposer = (pump MOST_PUMPED p).proposer in
      let lead : Lead x v q l offered = record {
        known = (on_tick k).node;
        has = s.now;
        proposer = tick_pumps k k.proposer p a.lead.proposer;
        ballot = pumped.ballot ∙ a.lead.ballot;
        learner = keeps.learner ∙ a.lead.learner;
        offers = keeps.offered ∙ a.lead.offers;
      } in
      let b : Leading v = record {
        proposer = q;
        common = c;
        lead = lead;
        covers = λ i of. ap (λ cs. slice_index cs i) pumped.coverages ∙ a.covers i of;
        kept = pumped.kept;
        next = pumped.within a.next;
        first = subst (λ n. n ≤ front_of l.learned) (sym pumped.first) a.first;
      } in
      stay (b, rises))) (omega arith) (omega arith)

  pump_all : top < PLACES → (fuel : ℕ) (w : World) (a : Leading w) → top ≤ next_of a.proposer + fuel
      → ReachesWithin fuel 0 x.members x.count w Rested
  pump_all room zero w a near = elim (cases_Bool (is_kept_from a.proposer.kept (next_of a.proposer))) [
    | inl kept ↦ absurd (omega (arith, near, kept_below top (next_of a.proposer) a.proposer.kept a.kept kept))
    | inr none ↦ stay (record { leading = a; none = none })
  ]
  pump_all room (suc fuel) w a near = by (pump_all room fuel) (cases_Bool (is_kept_from a.proposer.kept (next_of a.proposer))) where
    by : ((w : World) (a : Leading w) → top ≤ next_of a.proposer + fuel → ReachesWithin fuel 0 x.members x.count w Rested)
        → (is_kept_from a.proposer.kept (next_of a.proposer) ≡ true) ⊎ (is_kept_from a.proposer.kept (next_of a.proposer) ≡ false)
        → ReachesWithin (suc fuel) 0 x.members x.count w Rested
    by again (inr none) = within (stay (record { leading = a; none = none })) (omega arith) (omega arith)
    by again (inl kept) =
        within (then (pump_once room w a kept) (λ v next. let (b, rises) = next in again v b (omega (arith, near, rises)))) (omega arith)
        (omega arith)

  -- a settled world
  pub record Settles (v : World) : Type 0 where
    pub proposer : Proposer
    pub learner : Learner
    pub settled : Settled x v proposer learner offered
    pub low : next_of proposer ≤ top

  pub settle : top < PLACES → offered ≡ [] → (gap : ℕ) → (w : World) → (c : Covered more.laws x top leader l offered w)
      → top ≤ front_of l.learned + gap → ((i : ℕ) → IsOf x i → Ahead (top - gap) w i)
      → ReachesWithin (gap + x.group.size * gap) (gap * (2 * x.group.size) + x.group.size * (gap * 2)) x.members x.count w Settles
  settle room empty gap w c behind low =
      let first : Leading w = record {
        proposer = c.proposer;
        common = common_of c;
        lead = c.cov.lead;
        covers = c.covers;
        kept = c.cov.kept;
        next = c.cov.next;
        first = omega (arith, c.cov.first);
      } in
      let front_rises = more.laws.front_rises in
      within (then_on learn front_rises (pump_all room gap w first (omega (arith, behind, c.cov.first))) (λ v1 rested rises1.
      let a = rested.leading in
      let low1 : (i : ℕ) → IsOf x i → Ahead (top - gap) v1 i = λ i of. ahead_on rises1 (a.common.follow i of).has (low i of) in
      let p : Proposer = a.proposer in
      then_on learn front_rises (chase more.laws x most leader gap v1 p l offered a.common a.lead a.first (omega (arith, behind, a.next)))
      (λ v2 chased rises2.
      let (c2, (far, over)) = chased in
      let low2 : (i : ℕ) → IsOf x i → Ahead (top - gap) v2 i = λ i of. ahead_on rises2 (c2.follow i of).has (low1 i of) in
      let short2 = front_within more.laws x most c2 far.lead.has far.lead a.covers rested.none (omega (arith, a.next, room)) in
      then (tell_all more.laws x most leader p far.now offered (top - gap) gap (omega (
        arith,
        short2,
        a.next,
        ap (λ (l : Learner). front_of l.learned) far.lead.learner,
      )) v2 c2 far.lead low2) (λ v3 told.
      let (c3, lead3, ahead3) = told in
      let within = front_within more.laws x most c3 lead3.has lead3 a.covers rested.none (omega (arith, a.next, room)) in
      let even : front_of far.now.learned ≡ next_of p = omega (
        arith,
        over,
        within,
        ap (λ (l : Learner). front_of l.learned) lead3.learner,
      ) in
      stay (record {
        proposer = p;
        learner = far.now;
        settled = record {
          common = c3;
          lead = lead3;
          covers = a.covers;
          none = rested.none;
          even = even;
          first = omega (arith, a.first, more.laws.front_rises l far.now far.more);
          read = λ key among. absurd (none_in key (subst (λ ks. Contains ks key) empty among));
          ahead = ahead3;
        };
        low = a.next;
      }))))) (omega arith) (omega arith)
