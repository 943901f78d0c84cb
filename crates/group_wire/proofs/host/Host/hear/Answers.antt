use Rattle.std.proofs.Common.{false, arith}
use Rattle.group_wire.proofs.Acting.{hear_acts_by}
use Rattle.group_wire.proofs.Going.{call_stays}
use Rattle.group_wire.proofs.host.Host.hear.Goals as goal

pub returns-clause-stays : goal.returns-clause-stays
returns-clause-stays g c =
    grind (arith, call_stays c.args.self.now c.hear_next.new.self c.hear_next.ensures.hears.0 false, c.unreleased.ensures.replay)

pub returns-clause-acts : goal.returns-clause-acts
returns-clause-acts g c =
    let hears = c.hear_next.ensures.hears in
    hear_acts_by {kind = g.S.Store.kind} c.hear_next.result (record {
      came = hears.0;
      ending = hears.1;
      hears = hears.2;
      tells = hears.3;
      fault = hears.4;
      refused = c.hear_next.ensures.refused;
    })
