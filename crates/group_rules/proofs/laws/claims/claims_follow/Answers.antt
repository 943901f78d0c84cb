-- The claims, with the laws of the crates below.
use Rattle.group_rules.proofs.Output.{console_compares, consoles_agree, consoles_hold_output, consoles_show_released, has_no_gap, learned_agree, learned_chosen, learned_is_chosen, ChoiceLaws, PlayLaws}
use Rattle.std.proofs.Common.{List, arith}
use Rattle.paxos_msg.specs.Chosen.{IsChosen}
use Rattle.group_rules.specs.Claims.{ConsolesGrow}
use Rattle.group_rules.specs.Leads.{LeadsByRules, NodeDeed}
use Rattle.group_rules.specs.Invariants.{HoldsByRules}
use Rattle.group_rules.specs.Rules.{WorldState}
use Rattle.group_rules.proofs.Steps.{IsLater, later_itself, later_step, leads_keep, leads_relate}
use Rattle.group_rules.proofs.Fronts.{front_orderly, OrderLaws}
use Rattle.group_rules.proofs.laws.claims.claims_follow.Goals as goal

choice : goal.After-values_are_learned → ChoiceLaws
choice c = grind arith

play : goal.After-values_are_learned → PlayLaws
play c = grind arith

order : goal.After-values_are_learned → OrderLaws
order c = grind arith

pub returns-clause-learned_agree : goal.returns-clause-learned_agree
returns-clause-learned_agree c w h = learned_agree (choice c) w h.sound

pub returns-clause-learned_chosen : goal.returns-clause-learned_chosen
returns-clause-learned_chosen c w h = learned_chosen (choice c) w h.sound

pub returns-clause-consoles_hold_output : goal.returns-clause-consoles_hold_output
returns-clause-consoles_hold_output c w h = consoles_hold_output (play c) h.sound

pub returns-clause-consoles_agree : goal.returns-clause-consoles_agree
returns-clause-consoles_agree c w h = consoles_agree (play c) h.sound

pub returns-clause-no_gap : goal.returns-clause-no_gap
returns-clause-no_gap c w h = has_no_gap (play c) h.sound

pub returns-clause-consoles_show_released : goal.returns-clause-consoles_show_released
returns-clause-consoles_show_released c w h = consoles_show_released (play c) h.sound

pub returns-clause-consoles_follow : goal.returns-clause-consoles_follow
returns-clause-consoles_follow c w i node h up = console_compares (play c) h.sound up

pub returns-clause-key_once : goal.returns-clause-key_once
returns-clause-key_once c w h values front = (front_orderly (order c) h.sound h.ordered values front).once

pub returns-clause-serials_in_order : goal.returns-clause-serials_in_order
returns-clause-serials_in_order c w h values front = (front_orderly (order c) h.sound h.ordered values front).order

lasts : goal.After-values_are_learned → (w v : WorldState) (deeds : List NodeDeed) → HoldsByRules w → LeadsByRules w deeds v
    → HoldsByRules v
lasts c w v deeds h leads = leads_keep HoldsByRules c.steps_keep_it.ensures.goes_on deeds w v h leads

pub returns-clause-lasts : goal.returns-clause-lasts
returns-clause-lasts c = lasts c

pub returns-clause-learned_stays : goal.returns-clause-learned_stays
returns-clause-learned_stays c w v deeds h leads j k s a b has other =
    let later = leads_relate IsLater later_itself later_step deeds w v leads in
    let after = lasts c w v deeds h leads in
    let old : IsChosen v.size v.sent s a =
    rw (later.size, later.sent) (c.sent_only_grows.ensures.chosen w.size s w.sent later.more a (learned_is_chosen w h.sound j s a has)) in
    c.agreement.ensures.one_value v.size s v.sent _ a b after.sound.grew old (learned_is_chosen v after.sound k s b other)

pub returns-clause-consoles_grow : goal.returns-clause-consoles_grow
returns-clause-consoles_grow c w v deeds leads =
    leads_relate ConsolesGrow (λ x i. c.prefixes_are_ordered.ensures.itself _)
    (λ x m y i e grown step j. c.prefixes_are_ordered.ensures.through _ _ _ (grown j) (c.steps_show_more.ensures m y i e step j))
    deeds w v leads
