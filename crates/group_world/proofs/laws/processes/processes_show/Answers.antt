-- What holds whatever the rules allow holds of processes.
use Rattle.group_rules.specs.Claims.{ConsolesShowReleased}
use Rattle.group_rules.specs.Leads.{AlwaysByRules}
use Rattle.group_rules.specs.Rules.{WorldState}
use Rattle.group_world.specs.Processes.{AlwaysOfProcesses}
use Rattle.group_world.proofs.laws.processes.processes_show.Goals as goal

pub returns : goal.returns
returns c =
    let law = c.worlds_follow_the_rules.ensures in
    let once : (P : WorldState → Type 0) → AlwaysByRules P → AlwaysOfProcesses P =
    λ P always p group log now size session h.
    let (sound, (deeds, steps)) = law.log _ log now (c.deeds_keep_it_sound.ensures.begins p group size session) h in
    always p group.size deeds _ (rw (law.first p group) at steps) in
    record { shows = once ConsolesShowReleased c.headline.ensures.consoles_show_released }
