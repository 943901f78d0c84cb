use Rattle.std.proofs.Common.{◌∙◌, rules}
use Rattle.group_wire.specs.Turns.{is_made}
use Rattle.group_wire.proofs.Hearing.{turn_is}
use Rattle.group_wire.proofs.host.Host.take_turn.Goals as goal

pub returns : goal.returns
returns g c =
    let hears = c.in_ok-lost.ensures.hears in
    record {
      turned = record {
        came = hears.0;
        ending = hears.1;
        plays = turn_is {ticks = is_made c.in_ok-tick.tick} {mid = c.hear_all.new.self} _ hears.2
            (rw c.run.ensures.protocol c.in_ok-tick.ensures.known) (c.trace.ensures.passed ∙ c.in_ok-tick.ensures.traffic);
        hears = record { few = hears.3.few; ended = hears.3.ended; fault = search rules };
        due = search rules;
        lost = hears.4;
        me = search rules;
        runs = search rules;
        rest = search rules;
        others = search rules;
        stopped = search rules;
        stops = search rules;
        cause = search rules;
      };
    }
