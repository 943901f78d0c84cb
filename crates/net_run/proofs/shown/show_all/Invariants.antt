use Rattle.std.proofs.Common.{[], Option}
use Rattle.group_wire.specs.Doings.{HasActed}
use Rattle.group_wire.specs.Traffic.{Traffic}
use Rattle.net_run.specs.Shown.{ReleasesFirst, ShowsReleased}
use Rattle.net_run.proofs.shown.show_all.Given as goal

-- as many bytes were released as turns were made, and the console shows them
abbrev pub invariant-loop : goal.invariant-loop
invariant-loop g l = record {
  first : ReleasesFirst l.counter l.fn.host l.host;
  shows : ShowsReleased l.console.bytes l.host;
  acts : (passed : Option Traffic) → HasActed l.fn.host l.host passed passed [];
}
