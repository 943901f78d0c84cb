-- Endless runs under a leading node: each world is sound, and the nodes of the majority stay up and
-- promise nothing above its ballot.
use Rattle.std.proofs.Common.{◌≡◌, ◌≢◌, ◌∙◌, ◌⊎◌, inl, inr, ℕ, zero, suc, Bool, IsTrue, Contains, [], ◌∷◌, Option, Some, None, IfSome, IsSomeAnd, refl, sym, ap, subst, arith}
use Rattle.std.proofs.lemmas.Bool.{cases_eq}
use Rattle.paxos_msg.specs.declared.ballot.Ballot.{Ballot}
use Rattle.paxos_msg.specs.declared.message.Body.TheVariants.{Prepare, Promise, Accept, Accepted, Refused, Submit, Ask, Tell}
use Rattle.paxos_msg.specs.declared.value.Value.{Value}
use Rattle.paxos_msg.specs.Ballots.{IsAtMost, IsBelow, IsMajority}
use Rattle.paxos_msg.specs.Batches.{Body, Record, Sent}
use Rattle.paxos_msg.specs.Fits.{IsNode}
use Rattle.paxos_msg.specs.Messages.{IsSaid, IsSent}
use Rattle.paxos_msg.proofs.Agreement.{invariant_of}
use Rattle.paxos_msg.proofs.CountingNodes.{majorities_meet}
use Rattle.paxos_msg.proofs.Invariant.{Invariant}
use Rattle.group_protocol.specs.Known.{Known}
use Rattle.group_node.specs.Deeds.{Deed}
use Rattle.group_world.specs.declared.event.Act.{Act}
use Rattle.group_world.specs.declared.event.Act.TheVariants as act
use Rattle.group_world.specs.declared.event.Done.{Done}
use Rattle.group_world.specs.declared.event.Event.{Event}
use Rattle.group_world.specs.Deeds.{DoesDeed}
use Rattle.group_world.specs.Event.{Goes, IsDeedOf, node_of, plan_of}
use Rattle.group_world.specs.Group.{me_of, member_at, seat_of_member, World, world_state}
use Rattle.group_world.specs.Member.{Member}
use Rattle.group_progress.specs.Fair.{Endless, IsCalm, IsCalmAct, Outranks}
use Rattle.group_world.proofs.WorldAsGroup.{changed_elsewhere, changed_here, running}
use Rattle.group_progress.specs.Below.{EventLaws, TestLaws}
use Rattle.group_progress.proofs.Calm.{IsCalmDeed, IsCalmBody, IsSteady, Low, OfPromise, UpWith, deed_keeps}
use Rattle.group_progress.proofs.Going.{Good}
use Rattle.group_rules.proofs.Lists.{in_from_place}
use Rattle.group_progress.proofs.Starting.{happens_good}

-- ---- each world of a run

pub good_at : EventLaws → {w : World} (run : Endless w) → Good w → (n : ℕ) → Good (run.world n)
good_at laws run good zero = subst Good (sym run.begins) good
good_at laws run good (suc n) =
    happens_good laws (run.world n) (run.event n ∷ []) (run.world (suc n)) (good_at laws run good n)
    (run.world (suc n), run.done n, run.goes n, refl)

pub group_at : {w : World} (run : Endless w) (n : ℕ) → (run.world n).group ≡ w.group
group_at run zero = ap (λ (v : World). v.group) run.begins
group_at run (suc n) = ap (λ (v : World). v.group) (run.goes n).does.leads ∙ group_at run n

-- node `i` is up, with this of its promise
pub record AtWith (K : Known → Type 0) (v : World) (i : ℕ) : Type 0 where
  pub node : Member
  pub there : member_at v.members i ≡ Some node
  pub is_up : UpWith K node

-- what a sound world's node has saved is what it knows
pub seat_is : (P : Option Ballot → Type 0) {v : World} {i : ℕ} → Good v → AtWith (OfPromise P) v i → P
    ((world_state v).seats i).kept.promised
seat_is P {v} {i} good at =
    let sound = running good.holds.sound (record { there = at.there; up = at.is_up.up }) in
    let same : ((world_state v).seats i).kept.promised ≡ at.is_up.running.known.kept.promised =
    ap (λ o. (seat_of_member o).kept.promised) at.there ∙ ap (λ (r : Record). r.promised) (sym sound.kept_is) in
    subst P (sym same) at.is_up.holds

apart : (b : Ballot) (o : Option Ballot) → IfSome o (λ p. IsAtMost p b) → IsSomeAnd o (λ p. IsBelow b p) → ⊥
apart b None h g = g
apart b (Some p) h g = omega (arith, h, g)

-- ---- what calm acts hear

body_low : (b : Ballot) (body : Body) → ¬ Outranks b body → ((c : Ballot) (s : ℕ) (v : Value) → body ≡ Accept c s v → ¬ IsBelow b c)
    → ((c : Ballot) (s : ℕ) (v : Value) → body ≡ Accepted c s v → ¬ IsBelow b c) → IsCalmBody b body
body_low b (Prepare c from) calm none voted = (calm, λ c promised e. absurd cc)
body_low b (Promise c first upto votes) calm none voted = (tt, λ c promised e. absurd cc)
body_low b (Accept c s v) calm none voted = (none c s v refl, λ c promised e. absurd cc)
body_low b (Accepted c s v) calm none voted = (voted c s v refl, λ c promised e. absurd cc)
body_low b (Refused c promised) calm none voted = (tt, λ d other e is. calm (cc (e ∙ ap (λ x. Refused x other) is)))
body_low b (Submit v) calm none voted = (tt, λ c promised e. absurd cc)
body_low b (Ask from) calm none voted = (tt, λ c promised e. absurd cc)
body_low b (Tell s v) calm none voted = (tt, λ c promised e. absurd cc)

calm_deed : (b : Ballot) (sent : Sent) → ((c : Ballot) (s : ℕ) (v : Value) → IsSaid sent (Accept c s v) → ¬ IsBelow b c)
    → ((j : ℕ) (c : Ballot) (s : ℕ) (v : Value) → IsSent sent j (Accepted c s v) → IsSaid sent (Accept c s v))
    → (a : Act) (d : Deed) → IsDeedOf sent a d → IsCalmAct b sent a → IsCalmDeed b d
calm_deed b sent none backed (act.Press i byte) d is calm = subst (IsCalmDeed b) (sym is) tt
calm_deed b sent none backed (act.Deliver k i) d (m, at, is) calm = subst (IsCalmDeed b) (sym is) (body_low b m.body (calm m at)
    (λ c s v e. none c s v (
      m.sender,
      subst (λ body. Contains sent (record { sender = m.sender; body = body })) e
          (in_from_place sent k m at),
    ))
    (λ c s v e. none c s v (backed m.sender c s v (subst (λ body. Contains sent (record { sender = m.sender; body = body })) e
    (in_from_place sent k m at)))))
calm_deed b sent none backed (act.Campaign i) d is calm = absurd calm
calm_deed b sent none backed (act.Tick i) d is calm = subst (IsCalmDeed b) (sym is) tt
calm_deed b sent none backed (act.Run i steps) d is calm = subst (IsCalmDeed b) (sym is) tt
calm_deed b sent none backed (act.Release i) d is calm = subst (IsCalmDeed b) (sym is) tt
calm_deed b sent none backed (act.Crash i) d is calm = absurd calm
calm_deed b sent none backed (act.Start i) d (r, is) calm = subst (IsCalmDeed b) (sym is) tt

-- ---- one calm event

module _ (tests : TestLaws) {b : Ballot} {members : ℕ → Bool} {v : World} (good : Good v) (most : IsMajority v.group.size members)
    (all : (i : ℕ) → IsNode v.group.size i → IsTrue (members i) → AtWith (OfPromise (Low tests b)) v i) where
  -- what holds of all that was sent
  pub grown_at : Invariant v.group.size (world_state v).sent (λ i. ((world_state v).seats i).kept)
  grown_at = invariant_of good.holds.rules.sound.grew

  -- nothing is proposed above the ballot
  pub none_above : (c : Ballot) (s : ℕ) (value : Value) → IsSaid (world_state v).sent (Accept c s value) → ¬ IsBelow b c
  none_above c s value said below =
      let d = grown_at.decided c s value said b below in
      let (i, some, high, here, there) = majorities_meet v.group.size members d.members most d.majority in
      apart b _ (seat_is (Low tests b) good (all i (some, high) here)) (d.past i there).passed

  module _ (K : Known → Type 0) (steady : IsSteady b K) {u : World} {e : Event} {d : Done} (calm : IsCalm members b v e)
      (goes : Goes v e d u) where
    pub goes_on : (i : ℕ) → IsTrue (members i) → AtWith K v i → AtWith K u i
    goes_on i own at = by (cases_eq i (node_of e.act)) where
      node : Member
      node = goes.does.node

      by : (i ≡ node_of e.act) ⊎ (i ≢ node_of e.act) → AtWith K u i
      by (inr other) = record {
        node = at.node;
        there = rw goes.does.leads (changed_elsewhere v.members (node_of e.act) i node goes.does.left.member goes.does.there other) ∙
            at.there;
        is_up = at.is_up;
      }
      by (inl same) =
          let acts : IsTrue (members (node_of e.act)) = subst (λ j. IsTrue (members j)) same own in
          let is : at.node ≡ node = cc (sym at.there ∙ ap (member_at v.members) same ∙ goes.does.there) in
          let does : DoesDeed v.program (me_of v (node_of e.act)) node None goes.deed goes.does.left =
          subst (λ save. DoesDeed v.program (me_of v (node_of e.act)) node (plan_of save) goes.deed goes.does.left) (calm.kept acts)
          goes.does.does in
          let peace = calm_deed b (world_state v).sent none_above grown_at.accepted e.act goes.deed goes.is_deed (calm.calm acts) in
          let after = deed_keeps K steady v (node_of e.act) node goes.deed goes.does.left peace (subst (UpWith K) is at.is_up) does in
          record {
            node = goes.does.left.member;
            there = rw same (rw goes.does.leads (changed_here v.members (node_of e.act) node goes.does.left.member goes.does.there));
            is_up = after;
          }
