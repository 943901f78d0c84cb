-- Nodes forget nothing by their own events, so that fronts do not fall.
use Rattle.std.proofs.Common.{◌≡◌, ◌≢◌, ◌∙◌, ◌⊎◌, inl, inr, ℕ, ◌+◌, ◌≤◌, Bool, All, List, [], ◌∷◌, Some, None, sym, ap, subst, arith}
use Rattle.std.proofs.lemmas.Bool.{cases_eq}
use Rattle.std.proofs.lemmas.List.Elements.{All-head, All-tail}
use Rattle.paxos_msg.specs.Batches.{Sent}
use Rattle.paxos_learner.specs.Learner.{HasLearnedMore, Learner, front_of}
use Rattle.group_protocol.specs.Known.{Known, front}
use Rattle.group_node.specs.Deeds.{Deed}
use Rattle.group_node.specs.NodeCalls.{Running}
use Rattle.group_world.specs.declared.event.Act.{Act}
use Rattle.group_world.specs.declared.event.Act.TheVariants as act
use Rattle.group_world.specs.declared.event.Done.{Done}
use Rattle.group_world.specs.declared.event.Event.{Event}
use Rattle.group_world.specs.Event.{DoesAt, Goes, IsDeedOf, LeadsBy, node_of, plan_of}
use Rattle.group_world.specs.Group.{IsUp, World, messages_in}
use Rattle.group_world.specs.Member.{Member}
use Rattle.group_world.proofs.WorldAsGroup.{changed_elsewhere, changed_here}
use Rattle.group_progress.specs.GoingOn.{IsHelpful, IsOwnEvent, ReachesWithin}
use Rattle.group_progress.specs.Below.{LearnLaws}
use Rattle.group_progress.proofs.Onward.{IsNoCrash, OnwardAt, deed_on, onward_itself, onward_through}
use Rattle.group_progress.proofs.Steps.{Has}
use Rattle.group_progress.proofs.Telling.{Ahead}
use Rattle.group_progress.proofs.Within.{then_at}

no_crash : (n : ℕ) (sent : Sent) (a : Act) (d : Deed) → IsDeedOf sent a d → IsHelpful n a → IsNoCrash d
no_crash n sent (act.Press i byte) d is helps = absurd helps
no_crash n sent (act.Deliver k i) d (m, at, is) helps = subst IsNoCrash (sym is) tt
no_crash n sent (act.Campaign i) d is helps = subst IsNoCrash (sym is) tt
no_crash n sent (act.Tick i) d is helps = subst IsNoCrash (sym is) tt
no_crash n sent (act.Run i steps) d is helps = subst IsNoCrash (sym is) tt
no_crash n sent (act.Release i) d is helps = subst IsNoCrash (sym is) tt
no_crash n sent (act.Crash i) d is helps = absurd helps
no_crash n sent (act.Start i) d (r, is) helps = subst IsNoCrash (sym is) tt

-- a node is one
one_of : (w : World) (j : ℕ) (m y : Member) (q r : Running) → IsUp w j m q → IsUp w j y r → q ≡ r
one_of w j m y q r h g =
    let same : m ≡ y = cc (sym h.there ∙ g.there) in cc (sym h.up ∙ ap (λ (m : Member). m.node) same ∙ g.up)

-- no front is lower in the second world
pub record Rises (w v : World) : Type 0 where
  pub fronts : (j : ℕ) (k m : Known) → Has w j k → Has v j m → front k ≤ front m

pub ahead_on : {w v : World} → Rises w v → {f j : ℕ} {m : Known} → Has v j m → Ahead f w j → Ahead f v j
ahead_on rises {f} {j} {m} has a = record {
  known = m;
  has = has;
  far = omega (arith, rises.fronts j a.known m a.has has, a.far);
}

module _ (learn : LearnLaws) {members : ℕ → Bool} {n : ℕ} where
  event_on : (w v : World) (e : Event) (d : Done) → IsOwnEvent members n e → Goes w e d v → (j : ℕ) (m : Member) (q : Running)
      → IsUp w j m q → OnwardAt q v j
  event_on w v e d own goes j m q is_up = by (cases_eq j (node_of e.act)) where
    by : (j ≡ node_of e.act) ⊎ (j ≢ node_of e.act) → OnwardAt q v j
    by (inr other) =
        let does = goes.does in record {
          node = m;
          running = q;
          up = record {
            there = rw does.leads (changed_elsewhere w.members (node_of e.act) j does.node does.left.member does.there other)
                ∙ is_up.there;
            up = is_up.up;
          };
          on = onward_itself q;
        }
    by (inl same) =
        let does : DoesAt w j None goes.deed d v = subst (λ i. DoesAt w i None goes.deed d v) (sym same)
        (subst (λ save. DoesAt w (node_of e.act) (plan_of save) goes.deed d v) own.kept goes.does) in
        let alive = no_crash n (messages_in w.group w.sent) e.act goes.deed goes.is_deed own.helpful in
        let is : m ≡ does.node = cc (sym is_up.there ∙ does.there) in
        let up : does.node.node ≡ Some q = ap (λ (m : Member). m.node) (sym is) ∙ is_up.up in
        let on = deed_on learn w j does.node goes.deed does.left q alive up does.does in record {
          node = does.left.member;
          running = on.running;
          up = record { there = rw does.leads (changed_here w.members j does.node does.left.member does.there); up = on.up };
          on = on.on;
        }

  events_on : (events : List Event) (w v : World) → All (IsOwnEvent members n) events → LeadsBy w events v → (j : ℕ) (m : Member)
      (q : Running)
      → IsUp w j m q → OnwardAt q v j
  events_on [] w v own is j m q up =
      subst (λ v. OnwardAt q v j) (sym is) (record { node = m; running = q; up = up; on = onward_itself q })
  events_on (e ∷ events) w v own (mid, d, goes, rest) j m q up =
      let one = event_on w mid e d (All-head (IsOwnEvent members n) e events own) goes j m q up in
      let all = events_on events mid v (All-tail (IsOwnEvent members n) e events own) rest j one.node one.running one.up in
      record { node = all.node; running = all.running; up = all.up; on = onward_through q one.running all.running one.on all.on }

  module _ (front_rises : (old new : Learner) → HasLearnedMore old.learned new.learned → front_of old.learned ≤ front_of new.learned) where
    -- then something more, where no front has fallen
    pub then_on : {a b c d : ℕ} {w : World} {P Q : World → Type 0} → ReachesWithin a b members n w P
        → ((v : World) → P v → Rises w v → ReachesWithin c d members n v Q) → ReachesWithin (a + c) (b + d) members n w Q
    then_on {w = w} first more =
        let one = first.reaches in
        then_at first (more one.end one.holds (record {
          fronts = λ j k m old new.
              let on = events_on one.events w one.end one.own one.leads j old.node (record { known = k; progress = old.progress })
              (record { there = old.there; up = old.up }) in
              let same : on.running ≡ record { known = m; progress = new.progress } = one_of one.end j on.node new.node on.running
              (record { known = m; progress = new.progress }) on.up (record { there = new.there; up = new.up }) in
              let rises = front_rises k.learner on.running.known.learner on.on.more in
              omega (arith, rises, ap (λ (q : Running). front q.known) same);
        }))
