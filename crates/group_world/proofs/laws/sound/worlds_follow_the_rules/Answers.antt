-- Events and logs, deed by deed.
use Rattle.group_world.proofs.DeedsAsSteps.{begins_seen, DeedLaws, events_reach, log_reaches}
use Rattle.group_world.proofs.laws.sound.worlds_follow_the_rules.Goals as goal

pub returns : goal.returns
returns c =
    let laws : DeedLaws = record { faithful = c.deeds_keep_it_sound.ensures.goes_on; step = c.deeds_keep_it_sound.ensures.step } in
    record {
      first = begins_seen;
      events = λ w v events sound leads. let r = events_reach laws events w v sound leads in (r.faithful, (r.deeds, r.leads));
      log = λ w log now sound h. let r = log_reaches laws log w now sound h in (r.faithful, (r.deeds, r.leads));
    }
