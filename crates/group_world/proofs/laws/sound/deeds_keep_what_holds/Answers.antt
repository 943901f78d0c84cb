-- Nodes stay sound, and what they do is a step by the rules, or nothing.
use Rattle.std.proofs.Common.{ℕ, subst, sym}
use Rattle.group_node.specs.Deeds.{Deed}
use Rattle.group_rules.specs.Invariants.{HoldsByRules}
use Rattle.group_rules.specs.Rules.{WorldState, WorldStep}
use Rattle.group_world.specs.declared.event.Done.{Done}
use Rattle.group_world.specs.declared.event.Done.TheVariants.{Applied, Fell, Refused}
use Rattle.group_world.specs.Event.{IsStepAt}
use Rattle.group_world.proofs.laws.sound.deeds_keep_what_holds.Goals as goal

-- a deed that is refused changes nothing
step_holds : ((w v : WorldState) (i : ℕ) (deed : Deed) → HoldsByRules w → WorldStep w i deed v → HoldsByRules v)
    → (w v : WorldState) (i : ℕ) (deed : Deed) (d : Done) → HoldsByRules w → IsStepAt w i deed d v → HoldsByRules v
step_holds keeps w v i deed Applied h step = keeps w v i deed h step
step_holds keeps w v i deed Fell h step = keeps w v i deed h step
step_holds keeps w v i deed (Refused f) h same = subst HoldsByRules (sym same) h

pub returns-clause-begins : goal.returns-clause-begins
returns-clause-begins c p group size session = record {
  sound = c.deeds_keep_it_sound.ensures.begins p group size session;
  rules = subst HoldsByRules (sym (c.worlds_follow_the_rules.ensures.first p group)) (c.steps_keep_it.ensures.begins p group.size);
}

pub returns-clause-goes_on : goal.returns-clause-goes_on
returns-clause-goes_on c w v i plan deed d h heard does = record {
  sound = c.deeds_keep_it_sound.ensures.goes_on w v i plan deed d h.sound heard does;
  rules = step_holds c.steps_keep_it.ensures.goes_on _ _ i deed d h.rules
      (c.deeds_keep_it_sound.ensures.step w v i plan deed d h.sound heard does);
}
