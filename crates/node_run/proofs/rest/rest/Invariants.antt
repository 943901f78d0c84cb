use Rattle.std.proofs.Common.{◌≡◌, [], false}
use Rattle.node_io.specs.Prompts.{GivesWhatCame}
use Rattle.node_run.specs.Keeping.{KeepsOutput}
use Rattle.node_run.proofs.Cycling.{HasHeardSome}
use Rattle.node_run.proofs.rest.rest.Given as goal

-- so far there were receives alone, nothing else has passed over the wire, nothing was taken from the keyboard, and no save has
-- failed
abbrev pub invariant-loop : goal.invariant-loop
invariant-loop g l = record {
  works : l.host.protocol.is_stopped ≡ false;
  hears : HasHeardSome g.S.Store.kind l.initial.host l.host (g.T.Wire.traffic l.fn.endpoints.wire)
      (g.T.Wire.traffic l.endpoints.wire);
  looks : GivesWhatCame (g.K.Keyboard.keys l.fn.endpoints.keyboard) [] (g.K.Keyboard.keys l.endpoints.keyboard);
  retries : l.endpoints.retries ≡ l.fn.endpoints.retries;
  output : KeepsOutput l.initial.host l.host;
}
