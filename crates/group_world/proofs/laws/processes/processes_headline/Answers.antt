-- What holds whatever the rules allow holds of processes.
use Rattle.group_rules.specs.Claims.{ConsolesAgree, ConsolesGrow, ConsolesHoldOutput, HasNoGap, LearnedAgree, LearnedChosen, LearnedStays}
use Rattle.group_rules.specs.Leads.{AlwaysByRules, AlwaysLaterByRules}
use Rattle.group_rules.specs.Claims.{KeysOnce, SerialsInOrder}
use Rattle.group_rules.specs.Rules.{WorldState}
use Rattle.group_world.specs.Processes.{AlwaysLaterOfProcesses, AlwaysOfProcesses}
use Rattle.group_world.proofs.laws.processes.processes_headline.Goals as goal

pub returns : goal.returns
returns c =
    let law = c.worlds_follow_the_rules.ensures in
    let once : (P : WorldState → Type 0) → AlwaysByRules P → AlwaysOfProcesses P =
    λ P always p group log now size session h.
    let (sound, (deeds, steps)) = law.log _ log now (c.deeds_keep_it_sound.ensures.begins p group size session) h in
    always p group.size deeds _ (rw (law.first p group) at steps) in
    let twice : (P : WorldState → WorldState → Type 0) → AlwaysLaterByRules P → AlwaysLaterOfProcesses P =
    λ P always p group log more mid now size session h on.
    let (sound, (deeds, steps)) = law.log _ log mid (c.deeds_keep_it_sound.ensures.begins p group size session) h in
    let (last, (later, further)) = law.log _ more now sound on in
    always p group.size deeds later _ _ (rw (law.first p group) at steps) further in
    record {
      learned_agree = once LearnedAgree c.headline.ensures.learned_agree;
      learned_chosen = once LearnedChosen c.headline.ensures.learned_chosen;
      consoles_hold_output = once ConsolesHoldOutput c.headline.ensures.consoles_hold_output;
      consoles_agree = once ConsolesAgree c.headline.ensures.consoles_agree;
      no_gap = once HasNoGap c.headline.ensures.no_gap;
      key_once = once KeysOnce c.headline.ensures.key_once;
      serials_in_order = once SerialsInOrder c.headline.ensures.serials_in_order;
      learned_stays = twice LearnedStays c.headline.ensures.learned_stays;
      consoles_grow = twice ConsolesGrow c.headline.ensures.consoles_grow;
    }
