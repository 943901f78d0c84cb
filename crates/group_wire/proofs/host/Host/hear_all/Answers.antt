use Rattle.std.proofs.Common.{◌≡◌, inl, rules, [], arith}
use Rattle.group_wire.specs.Arrivals.{NoneCame}
use Rattle.group_wire.proofs.Hearing.{few_received, hears_no_more, hears_one_more}
use Rattle.group_wire.proofs.host.Host.hear_all.Goals as goal
use Rattle.group_wire.proofs.host.Host.hear_all.Goals.{in-Lost, in-Dropped}

pub loop-preserved : goal.loop-preserved
loop-preserved g c =
    let more = hears_one_more c.in_ok-hear_next.field-0 c.loop.invariant.stops.1 c.loop.invariant.hears c.in_ok-hear_next.ensures.hears in
    record {
      hears = elim c.match-branch-2.branch [
        | in-Lost w ↦ more (grind arith) (grind arith)
        | in-Dropped w ↦ more (grind arith) (grind arith)
      ];
      few = search rules;
      stops = search rules;
      faults = search rules;
    }

pub returns-in_err-hear_next-clause-hears : goal.returns-in_err-hear_next-clause-hears
returns-in_err-hear_next-clause-hears g c =
    let (came, first, many, losses) = c.loop.invariant.hears in
    let (later, ending, second, told, fault) = c.in_err-hear_next.ensures.hears in
    let count = few_received came ending in (
      came,
      ending,
      hears_no_more c.loop.invariant.stops.1 first told.0 second,
      record { few = omega (arith, count, many, c.loop-test.true); ended = search rules; fault = search rules },
      search rules,
    )

pub returns-in-Nothing-clause-hears : goal.returns-in-Nothing-clause-hears
returns-in-Nothing-clause-hears g c =
    let (came, first, many, losses) = c.loop.invariant.hears in
    let (later, ending, second, told, fault) = c.in_ok-hear_next.ensures.hears in
    let count = few_received came ending in
    let none : (later ≡ []) × (ending ≡ NoneCame) = rw c.in-Nothing.is at told in (
      came,
      ending,
      hears_no_more c.loop.invariant.stops.1 first none.0 second,
      record { few = omega (arith, count, many, c.loop-test.true); ended = inl none.1; fault = search rules },
      search rules,
    )
