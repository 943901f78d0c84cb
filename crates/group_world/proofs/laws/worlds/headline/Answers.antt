-- What holds whatever the rules allow holds of worlds.
use Rattle.group_rules.specs.Claims.{ConsolesAgree, ConsolesHoldOutput, HasNoGap, LearnedAgree, LearnedChosen}
use Rattle.group_rules.specs.Leads.{AlwaysByRules}
use Rattle.group_rules.specs.Claims.{KeysOnce, SerialsInOrder}
use Rattle.group_rules.specs.Rules.{WorldState}
use Rattle.group_world.specs.Headline.{Always}
use Rattle.group_world.proofs.laws.worlds.headline.Goals as goal

pub returns : goal.returns
returns c =
    let law = c.worlds_follow_the_rules.ensures in
    let once : (P : WorldState → Type 0) → AlwaysByRules P → Always P =
    λ P always p group events w size session leads.
    let (sound, (deeds, steps)) = law.events _ w events (c.deeds_keep_it_sound.ensures.begins p group size session) leads in
    always p group.size deeds _ (rw (law.first p group) at steps) in
    record {
      learned_agree = once LearnedAgree c.headline.ensures.learned_agree;
      learned_chosen = once LearnedChosen c.headline.ensures.learned_chosen;
      consoles_hold_output = once ConsolesHoldOutput c.headline.ensures.consoles_hold_output;
      consoles_agree = once ConsolesAgree c.headline.ensures.consoles_agree;
      no_gap = once HasNoGap c.headline.ensures.no_gap;
      key_once = once KeysOnce c.headline.ensures.key_once;
      serials_in_order = once SerialsInOrder c.headline.ensures.serials_in_order;
    }
