-- What holds whatever the rules allow holds of worlds.
use Rattle.group_rules.specs.Claims.{ConsolesGrow, LearnedStays}
use Rattle.group_rules.specs.Leads.{AlwaysLaterByRules}
use Rattle.group_rules.specs.Rules.{WorldState}
use Rattle.group_world.specs.Headline.{AlwaysLater}
use Rattle.group_world.proofs.laws.worlds.later_worlds_agree.Goals as goal

pub returns : goal.returns
returns c =
    let law = c.worlds_follow_the_rules.ensures in
    let twice : (P : WorldState → WorldState → Type 0) → AlwaysLaterByRules P → AlwaysLater P =
    λ P always p group events more w v size session leads on.
    let (sound, (deeds, steps)) = law.events _ w events (c.deeds_keep_it_sound.ensures.begins p group size session) leads in
    let (last, (later, further)) = law.events w v more sound on in
    always p group.size deeds later _ _ (rw (law.first p group) at steps) further in
    record {
      learned_stays = twice LearnedStays c.headline.ensures.learned_stays;
      consoles_grow = twice ConsolesGrow c.headline.ensures.consoles_grow;
    }
