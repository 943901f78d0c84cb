use Rattle.std.proofs.Common.{◌∙◌, Err, IfOk, inl, inr, refl, rules, sym}
use Rattle.std.proofs.lemmas.Result.{IfErr-weaker, IfOk-weaker}
use Rattle.group_world.specs.Event.{Goes, IsStep}
use Rattle.group_world.specs.Refusals.{Applies}
use Rattle.group_world.specs.Group.{World, world_state}
use Rattle.group_rules.specs.Claims.{ConsolesAgree, ConsolesGrow, ConsolesHoldOutput, HasNoGap, LearnedAgree, LearnedChosen, LearnedStays}
use Rattle.group_rules.specs.Claims.{KeysOnce, SerialsInOrder}
use Rattle.group_world.specs.Sound.{Holds}
use Rattle.group_rules.specs.Invariants.{HoldsByRules}
use Rattle.group_world.proofs.Happens.{heard_by}
use Rattle.group_world.proofs.DeedsAsSteps.{answer_reaches, DeedLaws, reach_itself, Reaches}
use Rattle.group_world.proofs.world.World.apply.Goals as goal
use Rattle.group_world.proofs.world.World.apply.Goals.{After-refusal}

-- the claims of a world and of what it has become
record Claims (w v : World) : Type 0 where
  learned_stays : LearnedStays (world_state w) (world_state v)
  consoles_grow : ConsolesGrow (world_state w) (world_state v)
  learned_agree : LearnedAgree (world_state v)
  learned_chosen : LearnedChosen (world_state v)
  consoles_hold_output : ConsolesHoldOutput (world_state v)
  consoles_agree : ConsolesAgree (world_state v)
  no_gap : HasNoGap (world_state v)
  key_once : KeysOnce (world_state v)
  serials_in_order : SerialsInOrder (world_state v)

claims : After-refusal → (w v : World) → Holds w → HoldsByRules (world_state v) → Reaches w v → Claims w v
claims c w v before after r =
    let claims = c.claims_follow.ensures in
    record {
      learned_stays = claims.learned_stays _ _ r.deeds before.rules r.leads;
      consoles_grow = claims.consoles_grow _ _ r.deeds r.leads;
      learned_agree = claims.learned_agree _ after;
      learned_chosen = claims.learned_chosen _ after;
      consoles_hold_output = claims.consoles_hold_output _ after;
      consoles_agree = claims.consoles_agree _ after;
      no_gap = claims.no_gap _ after;
      key_once = claims.key_once _ after;
      serials_in_order = claims.serials_in_order _ after;
    }

-- ---- an event that is refused

pub same-self : goal.same-self
same-self c = refl

pub returns-in-Some : goal.returns-in-Some
returns-in-Some c =
    let held = c.self.invariant in
    let k = claims (goal.at.returns-in-Some c).After-refusal _ _ held held.rules (reach_itself _ held.sound) in
    let applies : Applies c.self.inside.group c.args.event.now (Err c.in-Some.fault) c.self.inside.group =
    record { goes = tt; step = tt; taken = tt; same = refl; refused = inl (sym c.refusal.ensures ∙ c.in-Some.is) } in
    rw (← c.self.view_is) assumption

-- ---- one that is not

pub perform-requires : goal.perform-requires
perform-requires c = record { sound = c.self.invariant.sound; taken = sym c.in_default.ensures }

-- the world after the event, by a step or none
reaches : (c : goal.After-perform) → Reaches c.self.inside.group c.perform.new.self
reaches c =
    let laws : DeedLaws = record { faithful = c.deeds_keep_it_sound.ensures.goes_on; step = c.deeds_keep_it_sound.ensures.step } in
    answer_reaches laws _ _ c.args.event.now c.perform.result c.self.invariant.sound (rw (← c.plan.ensures) c.perform.ensures.acts)
    c.perform.ensures.err

-- it is sound, and a group by the rules
holds : (c : goal.After-perform) → Holds c.perform.new.self
holds c =
    let r = reaches c in
    record { sound = r.faithful; rules = c.claims_follow.ensures.lasts _ _ r.deeds c.self.invariant.rules r.leads }

pub invariant_of-self : goal.invariant_of-self
invariant_of-self c = holds c

pub returns : goal.returns
returns c =
    let r = c.perform.result in
    let goes : IfOk r (λ d. Goes c.self.inside.group c.args.event.now d c.perform.new.self) =
    rw (← c.plan.ensures) c.perform.ensures.acts in
    let step : IfOk r (λ d. IsStep (world_state c.self.inside.group) c.args.event.now.act d (world_state c.perform.new.self)) =
    IfOk-weaker r _ _ (λ d goes.
    let heard = heard_by c.self.inside.group.group c.self.inside.group.sent _ goes.deed goes.is_deed in
    (goes.deed, goes.is_deed, c.deeds_keep_it_sound.ensures.step _ _ _ _ goes.deed d c.self.invariant.sound heard goes.does)) goes in
    let k = claims (goal.at.returns c).After-refusal _ _ c.self.invariant (holds c).rules (reaches c) in
    let applies : Applies c.self.inside.group c.args.event.now r c.perform.new.self = record {
      goes = goes;
      step = step;
      taken = let none = sym c.in_default.ensures in search rules;
      same = c.perform.ensures.err;
      refused = IfErr-weaker r _ _ (λ f memory. inr (sym c.in_default.ensures, memory)) c.perform.ensures.memory;
    } in
    rw (← c.self.view_is) assumption
